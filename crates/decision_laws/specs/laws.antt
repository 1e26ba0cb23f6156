pub mod Cases
pub mod Kept
pub mod Remembered
pub mod Board
pub mod Ensured
pub mod Reads
pub mod Others
pub mod View
