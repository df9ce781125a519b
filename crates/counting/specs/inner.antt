-- What only contracts of private functions cite.
pub mod NextTests
pub mod CountingRows
pub mod FailedLists
pub mod CountedWalk
pub mod CountedLook
