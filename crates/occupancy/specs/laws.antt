pub mod Loop
pub mod Entries
pub mod Stays
pub mod Same
pub mod Polled
