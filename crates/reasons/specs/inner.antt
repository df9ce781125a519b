-- What only contracts of private functions cite.
pub mod Choice
pub mod Closable
pub mod Fair
pub mod Laid
pub mod PutKept
pub mod Rests
