-- Laws of the plain search by sets and rows, for the proofs of its functions.
pub mod Feeding
pub mod Sets
pub mod CountedWalk
pub mod Slots
pub mod CountingRows
pub mod CountedAnswer
pub mod Unique
