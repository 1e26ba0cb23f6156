pub mod Reply
pub mod Put
pub mod Ranges
