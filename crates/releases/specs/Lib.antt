pub mod Again
pub mod Rules
pub mod Whole
pub mod laws
