pub mod Bits
pub mod Offsets
