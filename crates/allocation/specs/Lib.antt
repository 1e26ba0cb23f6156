pub mod Rule
pub mod Closed
pub mod Loops
pub mod Own
pub mod laws
