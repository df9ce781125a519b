-- Laws of cutting down, for the proofs of its functions and for the crates above.
pub mod RecordSets
pub mod Cutting
pub mod Answers
pub mod Guarantees
pub mod Unique
