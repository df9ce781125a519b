-- Laws of the plain search.
pub mod Next
pub mod Plain
pub mod SameBelow
pub mod Limited
pub mod Models
pub mod Samples
pub mod BudgetedWalk
pub mod Remembered
pub mod ComputedLimit
