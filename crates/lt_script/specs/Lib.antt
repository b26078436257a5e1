pub mod Lines
pub mod Reading
pub mod Same
pub mod Script
