-- Laws of papers.
pub mod Sound
pub mod Branches
pub mod Taking
pub mod Showing
pub mod ReaderAnswers
pub mod Knot
pub mod Unique
