pub mod Gets
pub mod Days
mod Specimens
