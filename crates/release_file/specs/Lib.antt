pub mod Section
pub mod Place
pub mod Rows
pub mod laws
