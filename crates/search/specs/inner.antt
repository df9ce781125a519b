-- What only contracts of private functions cite.
pub mod Bounds
pub mod Candidates
pub mod SearchTables
pub mod TablesLaid
pub mod SearchAnswer
pub mod DeadSets
pub mod Refutation
pub mod LeftOver
pub mod SearchBelow
