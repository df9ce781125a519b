-- Signatures. DigitWords packs digits into words, Reads has what a load may have read, Signature the words of a program, Unpack the reads that words stand for; SignatureAnswers says what
-- packing and unpacking give back, ManyRuns what unpacking many runs at once does. inner has what only private functions promise.
pub mod DigitWords
pub mod Reads
pub mod Signature
pub mod Unpack
pub mod SignatureAnswers
pub mod SignatureCases
pub mod ManyRuns
pub mod inner
