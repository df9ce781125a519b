-- What only contracts of private functions cite.
pub mod TryingInTurn
pub mod Sorted
pub mod Steps
pub mod Joined
