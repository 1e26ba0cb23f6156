pub mod Opened
pub mod Specimens
pub mod BestSpecimens
