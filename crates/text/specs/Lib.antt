-- What the bytes of a text are: lines, digits, numbers, and lines that a template gives; and where a buffer has room for bytes.
pub mod Bounds
pub mod Lines
pub mod Part
pub mod Class
pub mod Number
pub mod Template
pub mod Room
