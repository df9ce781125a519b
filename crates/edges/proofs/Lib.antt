-- Laws of the rounds, for the proofs of functions here and in the crates above.
pub mod Supposed
pub mod PairSets
pub mod DrawnEdges
pub mod SourcesLaid
pub mod MissingSources
pub mod LentPairs
pub mod LaterRecords
pub mod KeptRows
pub mod RoundStep
pub mod LastRound
pub mod ForcedPairs
pub mod RoundBefore
pub mod Unique
pub mod ClosedTables
pub mod Takes
pub mod Settling
