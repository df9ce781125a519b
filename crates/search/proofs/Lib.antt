-- Laws of the search, for the proofs of its functions.
pub mod Candidates
pub mod Refutation
pub mod DeadSets
pub mod SearchBelow
pub mod TablesLaid
pub mod Rowing
pub mod Guiding
pub mod FirstOrder
pub mod Unique
