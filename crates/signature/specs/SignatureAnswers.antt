-- What packing and unpacking give back, and what the lent memory holds then. 10 ranks first, then 26; beside a refusal all is as it was.
--
--   signature_number a  == document 02's number of an answer; 0 where it is no refusal
--   words_in t, loads_in t == how many words and reads a program has; none where it is not well formed
--   size_in t τ         == how many words thread τ of it has
--   read_in t L         == what record L read, as the trace has it
--   pack_of t n         == the answer to packing the reads of t into n words
--   pack_left t before  == and what the words hold then
--   unpack_of t ws n    == the answer to unpacking words into n reads
--   unpack_left t ws before == and what the reads hold then
use Rattle.std.specs.Prelude.{Result, Ok, Err, cond, List, ℕ, eqb, length}
use Rattle.std.proofs.Math.Option.{Option, none, some}
use Rattle.laws.specs.Lowest.{lowest}
use Rattle.trace.specs.Op.{read}
use Rattle.trace.specs.Trace.{at}
use Rattle.trace.specs.WellFormed.{well_formed}
use Rattle.trace.specs.declared.Trace.{Trace}
use Rattle.signature.specs.Reads.{loads, unlisted}
use Rattle.signature.specs.Signature.{signature, tops, too_large}
use Rattle.signature.specs.Unpack.{word_count, reads_of}
use Rattle.signature.specs.declared.Reason.{Reason}
use Rattle.signature.specs.declared.Reason.TheVariants.{NotWellFormed, WrongLength, NotListed, TooLarge}

abbrev pub signature_number : Result (Unit {0}) Reason → ℕ
signature_number (Ok done) = 0
signature_number (Err NotWellFormed) = 10
signature_number (Err WrongLength) = 26
signature_number (Err (NotListed L)) = 23
signature_number (Err (TooLarge k)) = 24

unfoldable pub words_in : Trace → ℕ
words_in t = cond (well_formed t) (length (tops t)) 0

unfoldable pub loads_in : Trace → ℕ
loads_in t = cond (well_formed t) (length (loads t)) 0

unfoldable pub size_in : Trace → ℕ → ℕ
size_in t τ = cond (well_formed t) (word_count t τ) 0

abbrev pub read_in : Trace → ℕ → ℕ
read_in t L = read (at t L)

-- the lowest record whose read is not in its list, if any
abbrev pub pack_next : Option ℕ → Result (Unit {0}) Reason
pack_next (some L) = Err (NotListed L)
pack_next none = Ok tt

unfoldable pub pack_of : Trace → ℕ → Result (Unit {0}) Reason
pack_of t n = cond (well_formed t) (cond (eqb n (length (tops t))) (pack_next (lowest (unlisted t (read_in t)) t.len 0)) (Err WrongLength)) (Err NotWellFormed)

abbrev pub pack_then : Result (Unit {0}) Reason → Trace → List ℕ → List ℕ
pack_then (Ok done) t before = signature t (read_in t)
pack_then (Err why) t before = before

unfoldable pub pack_left : Trace → List ℕ → List ℕ
pack_left t before = pack_then (pack_of t (length before)) t before

-- the lowest word that is too large, if any
abbrev pub unpack_next : Option ℕ → Result (Unit {0}) Reason
unpack_next (some k) = Err (TooLarge k)
unpack_next none = Ok tt

unfoldable pub unpack_of : Trace → List ℕ → ℕ → Result (Unit {0}) Reason
unpack_of t ws n =
    cond (well_formed t)
    (cond (eqb (length ws) (length (tops t)))
    (cond (eqb n (length (loads t))) (unpack_next (lowest (too_large t ws) (length ws) 0)) (Err WrongLength)) (Err WrongLength)) (Err NotWellFormed)

abbrev pub unpack_then : Result (Unit {0}) Reason → Trace → List ℕ → List ℕ → List ℕ
unpack_then (Ok done) t ws before = reads_of t ws
unpack_then (Err why) t ws before = before

unfoldable pub unpack_left : Trace → List ℕ → List ℕ → List ℕ
unpack_left t ws before = unpack_then (unpack_of t ws (length before)) t ws before
