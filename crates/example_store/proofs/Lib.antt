pub mod Held
pub mod Passes
