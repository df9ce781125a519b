-- A relation on record numbers, kept as rows of bits. Bounds and Rows have how it is kept; nothing above this crate looks at that.
pub mod Bounds
pub mod Rows
pub mod Empty
pub mod Put
pub mod Copy
pub mod Chained
pub mod Within
pub mod Next
pub mod AddRow
pub mod DropRow
pub mod Rest
pub mod Lent
pub mod TurnedRound
pub mod inner
