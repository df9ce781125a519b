-- Signatures, asked over a text.
--
--   with_place n k      == a number with a place above it; the number alone where a trace has no such place
--   signed_code a       == an answer in one number: 0, or document 02's number, and above it the record or the word
--   words_told text, loads_told text == how many words and reads the text's program has
--   pack_code text n    == the answer to packing the text's reads into n words: what is wrong with the text, or what packing answers
--   pack_after text before == and what the words hold then
--   unpack_code, unpack_after == the same of unpacking words
use Rattle.std.specs.Prelude.{Result, Ok, Err, cond, List, ℕ, ◌+◌, ◌*◌, eqb, ltb}
use Rattle.trace.specs.Bounds.{RECORDS}
use Rattle.reader.specs.Whole.{read_whole}
use Rattle.signature.specs.SignatureAnswers as answers
use Rattle.signature.specs.SignatureAnswers.{words_in, loads_in, pack_of, pack_left, unpack_of, unpack_left}
use Rattle.signature.specs.declared.Reason.{Reason}
use Rattle.signature.specs.declared.Reason.TheVariants.{NotWellFormed, WrongLength, NotListed, TooLarge}
use Rattle.desk.specs.Text.{text_number}

unfoldable pub with_place : ℕ → ℕ → ℕ
with_place n k = cond (ltb k RECORDS) (n + 256 * k) n

abbrev pub signed_code : Result (Unit {0}) Reason → ℕ
signed_code (Ok done) = answers.signature_number (Ok done)
signed_code (Err NotWellFormed) = answers.signature_number (Err NotWellFormed)
signed_code (Err WrongLength) = answers.signature_number (Err WrongLength)
signed_code (Err (NotListed L)) = with_place (answers.signature_number (Err (NotListed L))) L
signed_code (Err (TooLarge k)) = with_place (answers.signature_number (Err (TooLarge k))) k

abbrev pub words_told : List ℕ → ℕ
words_told text = words_in (read_whole text).trace

abbrev pub loads_told : List ℕ → ℕ
loads_told text = loads_in (read_whole text).trace

unfoldable pub pack_code : List ℕ → ℕ → ℕ
pack_code text n = cond (eqb (text_number text) 0) (signed_code (pack_of (read_whole text).trace n)) (text_number text)

unfoldable pub pack_after : List ℕ → List ℕ → List ℕ
pack_after text before = cond (eqb (text_number text) 0) (pack_left (read_whole text).trace before) before

unfoldable pub unpack_code : List ℕ → List ℕ → ℕ → ℕ
unpack_code text ws n = cond (eqb (text_number text) 0) (signed_code (unpack_of (read_whole text).trace ws n)) (text_number text)

unfoldable pub unpack_after : List ℕ → List ℕ → List ℕ → List ℕ
unpack_after text ws before = cond (eqb (text_number text) 0) (unpack_left (read_whole text).trace ws before) before
