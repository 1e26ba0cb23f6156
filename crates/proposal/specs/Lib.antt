pub mod Proposals
pub mod Gather
pub mod laws
