-- Which pairs of a trace a model keeps, whom its loads read from, and which of them lacks a source; the starred traces.
pub mod RecordTests
pub mod Kept
pub mod SourceOf
pub mod Accepted
pub mod MissingOf
pub mod Starred
pub mod Found
