-- Laws of the verdict as the code holds it.
pub mod LaidOut
pub mod Guarantees
pub mod Numbers
pub mod Unique
