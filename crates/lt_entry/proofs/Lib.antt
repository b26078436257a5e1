pub mod SameKeys
pub mod OneMore
