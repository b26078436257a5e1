pub mod Commands
pub mod Ranges
pub mod Literals
pub mod Told
