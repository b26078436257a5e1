-- The modules that proofs of a table over the links may cite: facts on lists of nodes, and that two queues are
-- different.
pub mod Rings
pub mod Steps
-- These serve this crate alone.
mod Joints
mod Views
mod Pushes
mod Shows
mod Edits
mod Placed
mod Counts
mod Tallies
