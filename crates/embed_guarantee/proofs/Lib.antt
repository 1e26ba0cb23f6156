pub mod Numbers
pub mod Halves
