-- Laws of sessions, for the proofs of functions here and above.
pub mod Pairs
pub mod Filling
pub mod Openings
pub mod Forcing
pub mod Sessions
pub mod Answering
pub mod Joining
pub mod Standing
pub mod Lasting
pub mod Promises
pub mod Numbering
pub mod Unique
