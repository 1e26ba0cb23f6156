pub mod CallList
pub mod Promises
