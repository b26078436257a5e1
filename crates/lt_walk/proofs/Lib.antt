pub mod Sounds
pub mod Going
pub mod Parting
pub mod Follows
pub mod KeyLists
pub mod OneList
pub mod FewKeys
pub mod UnderWay
pub mod InPlace
pub mod WentOn
pub mod Stopping
pub mod Found
pub mod Passing
pub mod Ends
pub mod Waking
pub mod Noted
mod LetsLeft
pub mod Takes
pub mod Waits
pub mod Lives
pub mod Joins
mod Resumed
pub mod Partway
mod Theorem
