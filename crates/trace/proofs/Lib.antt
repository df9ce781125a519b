-- Laws of a trace, for the proofs of functions here and above.
pub mod Places
pub mod WellFormed
pub mod Meaning
pub mod Good
pub mod Growth
pub mod Faults
pub mod Marks
pub mod Lost
pub mod Unique
pub mod Records
