pub mod Opened
pub mod Answered
