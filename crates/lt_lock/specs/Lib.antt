pub mod Linked
pub mod Lone
pub mod Hot
