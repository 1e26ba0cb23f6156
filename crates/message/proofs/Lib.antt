pub mod Steps
mod Specimens
mod ValueSpecimens
