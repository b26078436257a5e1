pub mod Answers
pub mod Input
pub mod Output
pub mod Laws
pub mod Check
pub mod Program
pub mod Work
