pub mod Placed
pub mod Entered
pub mod SlotRule
