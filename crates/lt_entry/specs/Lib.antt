pub mod Entry
pub mod Ranges
pub mod Legal
