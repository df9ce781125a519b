-- The verdict as the code holds it, and document 01's numbers for it.
pub mod VerdictOf
