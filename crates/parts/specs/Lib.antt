-- Parts of a trace: what one removal takes, what is left as a trace of its own, and cutting down to the smallest fault.
pub mod Removal
pub mod Picked
pub mod CutDown
pub mod inner
