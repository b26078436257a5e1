pub mod Tenure
pub mod Committed
pub mod Laws
pub mod Example
