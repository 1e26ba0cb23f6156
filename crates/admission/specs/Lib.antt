pub mod Tests
pub mod laws
