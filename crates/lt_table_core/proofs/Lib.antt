pub mod Exact
pub mod Starts
pub mod Told
