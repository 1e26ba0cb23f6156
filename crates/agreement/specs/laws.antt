pub mod Steps
pub mod Tenants
pub mod Agrees
pub mod Code
