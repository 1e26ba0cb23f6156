pub mod File
pub mod Records
pub mod Place
pub mod Rows
pub mod StateFile
pub mod Typed
pub mod laws
