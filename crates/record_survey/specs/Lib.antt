pub mod Survey
pub mod laws
