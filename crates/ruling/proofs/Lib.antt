-- Laws of the rule that gives an edge.
pub mod Picked
pub mod Parts
pub mod Unique
