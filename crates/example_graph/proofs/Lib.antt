pub mod Cycles
pub mod Walks
