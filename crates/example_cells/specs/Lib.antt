pub mod Knowing
pub mod Committing
pub mod Leaving
