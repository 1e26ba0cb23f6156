pub mod Owned
