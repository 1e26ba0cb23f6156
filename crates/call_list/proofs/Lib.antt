pub mod Answered
mod Replayed
pub mod Sound
