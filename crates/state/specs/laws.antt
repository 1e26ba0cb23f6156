pub mod Edit
pub mod Layout
pub mod Lookup
pub mod Edited
pub mod Sets
pub mod Sorted
pub mod Named
