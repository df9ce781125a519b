-- What the private functions promise of many runs.
--
--   JudgedAs u m b       == b are the numbers of the verdict on u under model m
--   JudgedReads t m vs b == of that on the program with the reads vs
--   Given t ws n m runs  == a well formed program has n words and m loads, and these are the words of so many runs
--   ReadsLaid t ws m runs before after r == r is the first run with a word too large; where there is none the reads of all runs stand in front, and
--                                           otherwise all is as it was
--   BlockPut t m n before after i == the block of run i is the verdict on the program with the run's reads, n of them, as they stood; no block behind it
--                                    and nothing in front of it is another
--   AllJudged t m n before after runs == so is the block of each run
use Rattle.std.specs.Prelude.{Option, Some, None, ◌≡◌, List, ℕ, ◌*◌, ◌<◌, length, take, drop}
use Rattle.std.proofs.Math.Bool.{So}
use Rattle.trace.specs.Meaning.{frame_of}
use Rattle.trace.specs.WellFormed.{well_formed}
use Rattle.trace.specs.declared.Trace.{Trace}
use Rattle.pairs.specs.Kept.{kept_of}
use Rattle.rules.specs.Verdict as said
use Rattle.signature.specs.Reads.{loads}
use Rattle.signature.specs.Signature.{tops}
use Rattle.signature.specs.ManyRuns.{all_reads}
use Rattle.night.specs.FilledReads.{filled_reads}
use Rattle.night.specs.Block.{BLOCK, block_of}
use Rattle.night.specs.Night.{block_at, large_from}

abbrev pub JudgedAs : Trace → ℕ → List ℕ → Type 0
JudgedAs u m b = (v : said.Verdict) × said.Says (frame_of u) (kept_of m u) v × (b ≡ block_of v)

abbrev pub JudgedReads : Trace → ℕ → List ℕ → List ℕ → Type 0
JudgedReads t m vs b = JudgedAs (filled_reads t vs) m b

pub record Given (t : Trace) (ws : List ℕ) (n m runs : ℕ) : Type 0 where
  pub well : So (well_formed t)
  pub each : n ≡ length (tops t)
  pub some : m ≡ length (loads t)
  pub long : length ws ≡ runs * n

pub record ReadsLaid (t : Trace) (ws : List ℕ) (m runs : ℕ) (before after : List ℕ) (r : Option (ℕ × ℕ)) : Type 0 where
  pub answer : r ≡ large_from t ws 0 runs
  pub long : length after ≡ length before
  pub stays : (i k : ℕ) → r ≡ Some (i, k) → after ≡ before
  pub front : r ≡ None → take (runs * m) after ≡ all_reads t ws runs

pub record BlockPut (t : Trace) (m n : ℕ) (before after : List ℕ) (i : ℕ) : Type 0 where
  pub long : length after ≡ length before
  pub front : take (i * BLOCK) after ≡ take (i * BLOCK) before
  pub behind : (j : ℕ) → i < j → block_at after j ≡ block_at before j
  pub judged : JudgedReads t m (take n (drop (i * n) before)) (block_at after i)

abbrev pub AllJudged : Trace → ℕ → ℕ → List ℕ → List ℕ → ℕ → Type 0
AllJudged t m n before after runs = (length after ≡ length before) × ((i : ℕ) → i < runs → JudgedReads t m (take n (drop (i * n) before)) (block_at after i))
