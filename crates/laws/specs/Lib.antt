-- Notions about tests, contracts, lists and relations that no crate above owns.
pub mod Tests
pub mod Settles
pub mod Places
pub mod Relation
pub mod ListOf
pub mod Sums
pub mod Dict
pub mod Lowest
pub mod Picks
pub mod Bits
pub mod Alike
pub mod Latest
pub mod Warshall
pub mod inner
