pub mod Embed
pub mod Halves
pub mod Occupancy
pub mod Promises
