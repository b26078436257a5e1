pub mod Sessions
pub mod Closing
pub mod Locks
