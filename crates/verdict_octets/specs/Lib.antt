pub mod Octets
pub mod laws
