pub mod Table
pub mod Back
pub mod Rows
pub mod Lent
pub mod Steps
pub mod Files
