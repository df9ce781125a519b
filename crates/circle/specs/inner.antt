-- What only contracts of private functions cite.
pub mod WalkRows
pub mod LeastWalk
pub mod NamedRules
pub mod BackSteps
pub mod Ring
