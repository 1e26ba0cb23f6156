pub mod Code
pub mod Lookup
pub mod Count
