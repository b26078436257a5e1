pub mod Hearing
pub mod Concluding
