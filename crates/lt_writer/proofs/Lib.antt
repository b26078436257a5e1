pub mod Sorting
pub mod Composed
pub mod Unique
pub mod Written
pub mod Ranks
