pub mod Agrees
pub mod laws
