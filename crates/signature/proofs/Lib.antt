-- Laws of signatures.
pub mod DigitWords
pub mod Lists
pub mod Signature
pub mod Unpack
pub mod Tops
pub mod Loop
pub mod Passing
pub mod Few
pub mod Laid
pub mod Putting
pub mod SignatureAnswers
pub mod Taken
pub mod Placed
pub mod ValuesLaid
pub mod SignatureCases
pub mod ManyRuns
pub mod Unique
