pub mod Statement
pub mod Best
