-- Papers: lists of reasons why a trace has no valid order, and their small reader.
pub mod Paper
pub mod Accepts
pub mod inner
