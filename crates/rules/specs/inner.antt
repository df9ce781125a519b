-- What only contracts of private functions cite.
pub mod ExactWalks
pub mod ComputedCircle
pub mod Discipline
pub mod EarlyStop
pub mod Growing
