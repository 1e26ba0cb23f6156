pub mod Reached
pub mod Kept
pub mod Inserted
pub mod Ranges
pub mod Proposed
pub mod Granted
pub mod Board
