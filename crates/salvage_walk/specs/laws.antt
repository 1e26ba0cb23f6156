pub mod Walk
pub mod File
