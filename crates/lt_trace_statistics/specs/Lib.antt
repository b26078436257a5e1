pub mod Findings
pub mod OpenWaits
pub mod Taken
pub mod Laws
