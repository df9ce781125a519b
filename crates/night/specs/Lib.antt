-- A night's worth of runs. FilledReads puts the reads of a run into the test program, Block lays a verdict out in numbers, Night has what is promised of many
-- runs; RunsJudged has what only private functions promise.
pub mod FilledReads
pub mod Block
pub mod Night
pub mod inner
