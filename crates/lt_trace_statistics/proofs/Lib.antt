pub mod Ranks
pub mod Longest
pub mod Heat
pub mod OpenWaits
pub mod EndedWaits
pub mod ByNumber
