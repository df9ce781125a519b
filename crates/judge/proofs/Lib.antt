-- Laws of the judge.
pub mod Positions
pub mod Unique
pub mod Walked
pub mod JudgeAnswers
pub mod Judged
