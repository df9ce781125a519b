-- Laws of a talk. Calling: which call a line makes. Cutting: cut numbers are answered as whole ones. Starting: first values. Lasting: what stands after any
-- lines. Unique: no second answer.
pub mod Calling
pub mod Cutting
pub mod Starting
pub mod Lasting
pub mod Unique
