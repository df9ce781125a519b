-- Laws of the packed file.
pub mod Codec
pub mod Steps
pub mod Framing
pub mod FileLaid
pub mod Firsts
pub mod Records
pub mod RoundTrip
pub mod FileCases
pub mod WholeFile
pub mod Unique
