-- The plain search as its functions see it, and what it answers.
pub mod CountedAnswer
pub mod inner
