-- The search for the first valid order: its tables, its steps, its memory, and what it answers.
pub mod FirstOrder
pub mod inner
