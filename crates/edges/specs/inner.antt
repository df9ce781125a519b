-- What only contracts of private functions cite.
pub mod PairSets
pub mod DrawnEdges
pub mod LaterRecords
pub mod SourcesLaid
pub mod RoundStep
pub mod ClosedTables
pub mod Settling
pub mod Takes
