-- Laws of a night's worth of runs.
pub mod FilledReads
pub mod Block
pub mod Many
pub mod Sourced
pub mod Unique
