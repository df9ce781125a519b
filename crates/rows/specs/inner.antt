-- What only contracts of private functions cite.
pub mod AddedPairs
pub mod Forward
pub mod HoldsChains
pub mod Sets
pub mod Squares
