pub mod Order
pub mod Trans
pub mod Word
