pub mod Code
pub mod Others
