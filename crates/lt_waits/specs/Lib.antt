pub mod Waits
pub mod Laws
pub mod Example
