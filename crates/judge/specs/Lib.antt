-- What the judge of a proposed order answers.
pub mod Judged
pub mod Judges
pub mod inner
