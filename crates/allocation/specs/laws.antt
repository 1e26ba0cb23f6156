pub mod Closed
pub mod Loops
pub mod Sets
pub mod Granted
pub mod Kept
pub mod Best
pub mod View
pub mod Single
