pub mod Walk
pub mod laws
