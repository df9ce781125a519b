-- A night's worth of runs of one test program: the words of each run, one behind the other, and a block of numbers for the verdict on each.
--
--   block_at out i     == its numbers
--   runs_in n          == how many runs have room in n numbers
--   fitting t ws n    == the words are those of as many runs, and no number is left over
--   large a i rest    == run i, where unpacking answers its words with a word too large, and otherwise what the runs behind it come to
--   large_from t ws i k == of the runs i, i + 1, .., k of them, the first whose words have one too large, with the lowest of these
--   large_told l       == the answer that tells it
--   night_of t m ws n  == the answer to the words, where there are n numbers of room
--   night_number a     == its number: 0 where it is no refusal
--   JudgedRun t m ws b == b are the numbers of the verdict, under model m, on the program with the reads that the words of a run stand for
--   all_done t m ws k out == so are k blocks, and they are all
--   Nights t m ws before after a == what `night` promises: the answer; beside a refusal the lent memory as it was; else the verdict on each run
use Rattle.std.specs.Prelude.{Result, Ok, Err, Option, Some, None, ◌≡◌, ◌≢◌, Bool, cond, ◌&&◌, List, ℕ, zero, suc, ◌*◌, ◌/◌, ◌<◌, eqb, length, take, drop}
use Rattle.trace.specs.Meaning.{frame_of}
use Rattle.trace.specs.WellFormed.{well_formed}
use Rattle.trace.specs.declared.Trace.{Trace}
use Rattle.pairs.specs.Kept.{modelled, kept_of}
use Rattle.rules.specs.Verdict as said
use Rattle.signature.specs.Reads.{loads}
use Rattle.signature.specs.Signature.{tops}
use Rattle.signature.specs.Unpack.{reads_of}
use Rattle.signature.specs.SignatureAnswers.{unpack_of}
use Rattle.signature.specs.ManyRuns.{words_at}
use Rattle.signature.specs.declared.Reason as unpacking
use Rattle.signature.specs.declared.Reason.TheVariants as words
use Rattle.night.specs.FilledReads.{filled_reads}
use Rattle.night.specs.Block.{BLOCK, block_of}
use Rattle.night.specs.declared.Reason.{Reason}
use Rattle.night.specs.declared.Reason.TheVariants.{NotWellFormed, NoModel, WrongLength, TooLarge}

abbrev pub block_at : List ℕ → ℕ → List ℕ
block_at out i = take BLOCK (drop (i * BLOCK) out)

abbrev pub runs_in : ℕ → ℕ
runs_in n = n / BLOCK

abbrev pub fitting : Trace → List ℕ → ℕ → Bool
fitting t ws n = eqb n (runs_in n * BLOCK) && eqb (length ws) (runs_in n * length (tops t))

abbrev pub large : Result (Unit {0}) unpacking.Reason → ℕ → Option (ℕ × ℕ) → Option (ℕ × ℕ)
large (Ok done) i rest = rest
large (Err words.NotWellFormed) i rest = rest
large (Err words.WrongLength) i rest = rest
large (Err (words.NotListed L)) i rest = rest
large (Err (words.TooLarge k)) i rest = Some (i, k)

unfoldable pub large_from : Trace → List ℕ → ℕ → ℕ → Option (ℕ × ℕ)
large_from t ws i zero = None
large_from t ws i (suc k) = large (unpack_of t (words_at t ws i) (length (loads t))) i (large_from t ws (suc i) k)

abbrev pub large_told : Option (ℕ × ℕ) → Result (Unit {0}) Reason
large_told (Some p) = Err (TooLarge p.0 p.1)
large_told None = Ok tt

unfoldable pub night_of : Trace → ℕ → List ℕ → ℕ → Result (Unit {0}) Reason
night_of t m ws n = cond (well_formed t) (cond (modelled m) (cond (fitting t ws n) (large_told (large_from t ws 0 (runs_in n))) (Err WrongLength)) (Err NoModel)) (Err NotWellFormed)

abbrev pub night_number : Result (Unit {0}) Reason → ℕ
night_number (Ok done) = 0
night_number (Err NotWellFormed) = 10
night_number (Err NoModel) = 9
night_number (Err WrongLength) = 26
night_number (Err (TooLarge i k)) = 24

abbrev pub JudgedRun : Trace → ℕ → List ℕ → List ℕ → Type 0
JudgedRun t m ws b = let u = filled_reads t (reads_of t ws) in (v : said.Verdict) × said.Says (frame_of u) (kept_of m u) v × (b ≡ block_of v)

abbrev pub all_done : Trace → ℕ → List ℕ → ℕ → List ℕ → Type 0
all_done t m ws k out = (length out ≡ k * BLOCK) × ((i : ℕ) → i < k → JudgedRun t m (words_at t ws i) (block_at out i))

pub record Nights (t : Trace) (m : ℕ) (ws before after : List ℕ) (a : Result (Unit {0}) Reason) : Type 0 where
  pub answer : a ≡ night_of t m ws (length before)
  pub stays : a ≢ Ok tt → after ≡ before
  pub judged : a ≡ Ok tt → all_done t m ws (runs_in (length before)) after
