pub mod Writes
pub mod ReadBack
pub mod Short
mod Specimens
pub mod RangesBack
mod BoundSpecimens
