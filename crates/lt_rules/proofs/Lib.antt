-- The modules that proofs of other crates may cite: maps of records, the distinguished waiter of a queue, facts on
-- lists of requests, that each step keeps a record lawful, and properties of each request at a key.
pub mod Maps
pub mod Queue
pub mod Rising
pub mod Cases
pub mod Orderly
pub mod Lawfulness
pub mod Filled
pub mod Passes
pub mod FewLets
pub mod Rooms
-- These serve the laws of this crate alone.
mod Holders
mod Writes
mod Lets
mod Between
mod Owners
