pub mod AddressSet
pub mod Fewest
pub mod laws
