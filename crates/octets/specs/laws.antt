pub mod Octets
pub mod Run
