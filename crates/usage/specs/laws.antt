pub mod Covered
pub mod Same
pub mod Bound
pub mod Sums
pub mod Text
pub mod Steps
pub mod Exact
pub mod Files
