pub mod Lent
pub mod Verdict
