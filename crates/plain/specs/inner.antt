-- What only contracts of private functions cite.
pub mod SameBelow
pub mod Remembered
pub mod BudgetedWalk
