-- Laws of the limited verdict.
pub mod LaidOut
pub mod Guarantees
pub mod Unique
