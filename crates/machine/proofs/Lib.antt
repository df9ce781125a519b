-- Laws of the machine, for the proofs of functions here and above.
pub mod History
pub mod CoresOf
pub mod Snoc
pub mod Invariant
pub mod Values
pub mod Driving
pub mod KeptLaws
pub mod Lockstep
pub mod ByCases
pub mod Driven
pub mod Equal
pub mod Few
pub mod Fifo
pub mod Unique
