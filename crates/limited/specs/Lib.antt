-- The limited verdict as the code holds it.
pub mod LimitedVerdict
