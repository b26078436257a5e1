pub mod Audit
pub mod KnownText
pub mod Parallel
pub mod Reasons
