pub mod Usage
pub mod Report
pub mod laws
