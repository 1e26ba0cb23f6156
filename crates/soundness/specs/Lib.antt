pub mod Sound
pub mod Parts
pub mod Across
pub mod View
pub mod laws
