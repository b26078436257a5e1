pub mod Rules
pub mod Visit
pub mod Step
pub mod Table
pub mod Memory
pub mod Lawful
pub mod Laws
pub mod Codes
