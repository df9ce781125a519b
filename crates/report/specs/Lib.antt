-- The text of an answer: what the program prints for a text.
pub mod Bounds
pub mod Words
pub mod Report
pub mod Wrote
