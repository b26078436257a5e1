pub mod Tables
pub mod LoneLocks
pub mod SortedKeys
pub mod LeastKeys
pub mod HotKeys
