mod Knows
mod Freed
mod Draws
mod Learning
mod Logged
mod InOrder
pub mod Lefts
