pub mod Format
pub mod Place
pub mod Section
pub mod Tenants
pub mod Rows
pub mod laws
