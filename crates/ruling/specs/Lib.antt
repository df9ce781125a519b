-- Which rule gives an edge of a trace.
pub mod inner
