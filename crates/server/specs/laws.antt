pub mod Told
pub mod Tests
pub mod Outcomes
pub mod Halves
