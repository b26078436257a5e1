pub mod Fronts
pub mod Onward
