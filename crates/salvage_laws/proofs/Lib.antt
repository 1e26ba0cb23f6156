pub mod Listed
mod Chosen
mod Table
mod Records
mod Memory
pub mod Altered
pub mod Accepted
mod Unchanged
pub mod Same
mod Broken
pub mod First
