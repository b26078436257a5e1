pub mod WalkSteps
pub mod Boxes
pub mod Copied
pub mod Hearing
