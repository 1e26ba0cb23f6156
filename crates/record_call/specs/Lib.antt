pub mod Call
pub mod laws
