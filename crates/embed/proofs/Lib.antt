pub mod Files
pub mod Sound
mod Replied
mod Salvaged
mod Occupancy
pub mod Judged
