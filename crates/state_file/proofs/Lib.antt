mod WholeForm
mod Pad
pub mod Loads
mod RowLaws
mod Writes
mod Zeros
mod Remembered
pub mod ReadAgain
mod Short
pub mod WriteAgain
pub mod RoundTrip
mod Cases
