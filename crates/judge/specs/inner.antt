-- What only contracts of private functions cite.
pub mod Positions
pub mod VisibleBy
