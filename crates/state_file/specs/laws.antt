pub mod File
pub mod Local
pub mod Records
