pub mod Section
pub mod Form
pub mod Limits
pub mod Load
pub mod Rows
pub mod Memory
