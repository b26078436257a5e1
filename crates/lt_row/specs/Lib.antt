pub mod Row
pub mod Front
pub mod Found
pub mod RowStepped
pub mod SameTxn
