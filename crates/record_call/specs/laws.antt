pub mod Lent
pub mod Call
