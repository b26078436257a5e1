pub mod Puts
pub mod Rank
