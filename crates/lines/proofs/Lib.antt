-- Laws of the lines that a reader gives.
pub mod Unique
