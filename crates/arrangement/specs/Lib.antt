pub mod Arrangement
pub mod Statement
