-- The writer of papers: the list that it makes for a trace that has no valid order.
pub mod Ways
pub mod Telling
pub mod Writing
pub mod Writes
pub mod inner
