-- The machine that runs a trace by a list of steps.
pub mod Machine
pub mod Fifo
pub mod Replay
