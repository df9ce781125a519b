-- What a text says. LineForms and AfterThread have the notation; Answer, Read, BadLine, Cases and Whole what comes back for any text whatever; TextOf which texts are a trace's.
pub mod Bounds
pub mod LineForms
pub mod Answer
pub mod Read
pub mod BadLine
pub mod Cases
pub mod TextOf
pub mod Whole
pub mod inner
