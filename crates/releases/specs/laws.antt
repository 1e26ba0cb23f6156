pub mod Tenants
pub mod Code
pub mod Whole
pub mod Kept
