pub mod Maybe
pub mod Words
pub mod Number
pub mod Fields
pub mod Calls
pub mod Replies
pub mod Lets
pub mod Compose
