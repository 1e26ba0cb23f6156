pub mod Format
pub mod Place
pub mod Fixed
pub mod Section
pub mod Rows
pub mod Tenants
pub mod Entries
