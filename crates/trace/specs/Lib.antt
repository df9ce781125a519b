-- What a trace is, and what it means. Bounds, Op, Trace, WellFormed, FormFacts, Fault and Cores have its form, Padded lists in arrays; Meaning has what it says, as a frame of `rules`.
pub mod Bounds
pub mod Padded
pub mod Op
pub mod Trace
pub mod WellFormed
pub mod FormFacts
pub mod Fault
pub mod Cores
pub mod Meaning
pub mod inner
