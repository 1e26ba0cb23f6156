pub mod Discards
mod Codes
pub mod Replies
pub mod Walked
pub mod Answers
pub mod Bounded
