pub mod Lists
pub mod Decided
pub mod Same
pub mod Every
