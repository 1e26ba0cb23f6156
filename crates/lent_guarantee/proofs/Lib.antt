pub mod Same
pub mod Halves
pub mod Guaranteed
pub mod Best
pub mod RoundTrip
pub mod Written
pub mod FileReads
pub mod Finds
