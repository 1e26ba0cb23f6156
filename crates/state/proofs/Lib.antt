pub mod Sorted
pub mod Said
pub mod Board
pub mod Unmoved
