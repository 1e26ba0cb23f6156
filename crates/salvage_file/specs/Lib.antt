pub mod Salvage
pub mod Walk
pub mod laws
