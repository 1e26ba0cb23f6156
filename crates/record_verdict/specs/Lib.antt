pub mod Verdict
pub mod laws
