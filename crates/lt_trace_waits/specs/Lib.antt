pub mod Waits
pub mod Moves
pub mod Judged
