-- The reads that words stand for.
--
--   word_count t τ       == how many words thread τ takes
--   part_from t ws σ k τ == the words of thread τ, where ws are those of the threads σ, σ + 1, .., k of them
--   part_of t ws τ       == the words of thread τ
--   digit_in t ws L      == the digit of load L: the one at its place among the loads of its thread
--   read_of t ws L       == what load L read
--   reads_of t ws        == what the loads read, by record number
use Rattle.std.specs.Prelude.{cond, List, [], ℕ, zero, suc, eqb, get_or, take, drop}
use Rattle.laws.specs.Places.{pos}
use Rattle.trace.specs.Bounds.{THREADS}
use Rattle.trace.specs.Op.{thread}
use Rattle.trace.specs.Trace.{at}
use Rattle.trace.specs.declared.Trace.{Trace}
use Rattle.signature.specs.DigitWords.{words_of, taken}
use Rattle.signature.specs.Reads.{each, range_of, value_of, readers, loads}

abbrev pub word_count : Trace → ℕ → ℕ
word_count t τ = words_of (each (range_of t) (readers t τ))

unfoldable pub part_from : Trace → List ℕ → ℕ → ℕ → ℕ → List ℕ
part_from t ws σ zero τ = []
part_from t ws σ (suc k) τ = cond (eqb τ σ) (take (word_count t σ) ws) (part_from t (drop (word_count t σ) ws) (suc σ) k τ)

abbrev pub part_of : Trace → List ℕ → ℕ → List ℕ
part_of t ws τ = part_from t ws 0 THREADS τ

unfoldable pub digit_in : Trace → List ℕ → ℕ → ℕ
digit_in t ws L = let τ = thread (at t L) in get_or (taken (each (range_of t) (readers t τ)) (part_of t ws τ)) (pos (readers t τ) L) 0

abbrev pub read_of : Trace → List ℕ → ℕ → ℕ
read_of t ws L = value_of t L (digit_in t ws L)

abbrev pub reads_of : Trace → List ℕ → List ℕ
reads_of t ws = each (read_of t ws) (loads t)
