pub mod Book
pub mod Edit
pub mod Board
pub mod laws
