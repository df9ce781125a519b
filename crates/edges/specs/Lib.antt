-- The rounds as rows of bits: what is drawn in each, where they end, and what the entries answer.
pub mod Supposed
pub mod SourcesOf
pub mod LastRound
pub mod KeptRows
pub mod ForcedPairs
pub mod RoundBefore
pub mod inner
