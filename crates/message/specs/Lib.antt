pub mod Codes
pub mod Walk
pub mod Read
pub mod Values
pub mod Placed
pub mod laws
