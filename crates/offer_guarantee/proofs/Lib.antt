pub mod Held
mod Alike
pub mod Offers
mod Drawn
pub mod Taken
pub mod AtOnce
