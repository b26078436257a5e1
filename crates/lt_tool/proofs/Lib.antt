pub mod Pieces
pub mod Appended
pub mod Checks
pub mod Outputs
pub mod Places
pub mod Tells
