pub mod Section
pub mod Records
pub mod Place
pub mod Rows
pub mod laws
