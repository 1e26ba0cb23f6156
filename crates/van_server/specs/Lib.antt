pub mod Van
