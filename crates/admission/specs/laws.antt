pub mod Code
pub mod Found
