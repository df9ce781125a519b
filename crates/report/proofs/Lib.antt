-- Laws behind the text of an answer.
pub mod Wrote
pub mod Digits
pub mod Rendering
pub mod Answered
pub mod Empty
pub mod Unique
