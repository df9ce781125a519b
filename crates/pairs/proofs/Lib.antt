-- Laws of kept pairs, for the crates above.
pub mod RecordTests
pub mod KeptPairs
pub mod Unique
pub mod ReadsFrom
pub mod Fences
pub mod SourceOf
pub mod Weaker
pub mod ValidOrders
pub mod Found
pub mod MissingOf
pub mod Starred
