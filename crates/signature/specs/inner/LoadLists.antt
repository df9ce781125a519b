-- What the private functions cite beside the words.
--
--   found_of x    == a lowest place, or none
--   DigitsBelow t last == the digit that is packed is one of its load's
--   place_after t i k, read_put t i k d vs == the next place, and the reads, once record i is looked at: its digit is d
--   DigitsSmall t x ws == the digit of each load, by where it stands in ws, is one of its own
--   ReadGiven t y d i out k == record i has the digit d, if it is a load, and out has a place k for what it read; y has what was written
--   over us n ws k == word k of ws is larger than the one at its place among the n words of us
--   RunsGiven t ws out n m k == a well formed program has n words and m loads; ws are the words of k runs, and out has room for their reads
use Rattle.std.specs.Prelude.{Option, Some, None, Bool, cond, List, ◌≡◌, ℕ, ◌+◌, ◌*◌, ◌%◌, ◌<◌, ◌≤◌, ltb, length, get_or, set}
use Rattle.std.proofs.Math.Bool.{So}
use Rattle.std.proofs.Math.Option as maybe
use Rattle.trace.specs.Bounds.{RECORDS, ADDRESSES}
use Rattle.trace.specs.Op.{address, reads}
use Rattle.trace.specs.Trace.{at}
use Rattle.trace.specs.WellFormed.{well_formed}
use Rattle.trace.specs.declared.Trace.{Trace}
use Rattle.signature.specs.Reads.{range_of, value_of, loads}
use Rattle.signature.specs.Signature.{tops}
use Rattle.signature.specs.inner.WordsLaid.{choice, digit_by}
use Rattle.signature.specs.inner.ValuesLaid.{AllValues}
use Rattle.signature.specs.declared.WrittenValues.{WrittenValues}
use Rattle.signature.specs.declared.Places.{Places}

abbrev pub found_of : maybe.Option ℕ → Option ℕ
found_of (maybe.some i) = Some i
found_of maybe.none = None

abbrev pub DigitsBelow : Trace → Bool → Type 0
DigitsBelow t last = (L : ℕ) → L < t.len → So (reads (at t L)) → choice t last L < range_of t L

unfoldable pub over : List ℕ → ℕ → List ℕ → ℕ → Bool
over us n ws k = ltb (get_or us (k % n) 0) (get_or ws k 0)

abbrev pub DigitsSmall : Trace → Places → List ℕ → Type 0
DigitsSmall t x ws = (L : ℕ) → L < t.len → So (reads (at t L)) → digit_by x ws L < range_of t L

pub record ReadGiven (t : Trace) (y : WrittenValues) (d i : ℕ) (out : List ℕ) (k : ℕ) : Type 0 where
  pub fits : t.len ≤ RECORDS
  pub here : i < t.len
  pub below : address (at t i) < ADDRESSES
  pub laid : AllValues t y
  pub small : So (reads (at t i)) → d < range_of t i
  pub room : So (reads (at t i)) → k < length out
  pub low : k ≤ i

pub record RunsGiven (t : Trace) (ws out : List ℕ) (n m k : ℕ) : Type 0 where
  pub well : So (well_formed t)
  pub each : n ≡ length (tops t)
  pub some : m ≡ length (loads t)
  pub long : length ws ≡ k * n
  pub room : length out ≡ k * m

unfoldable pub place_after : Trace → ℕ → ℕ → ℕ
place_after t i k = cond (reads (at t i)) (k + 1) k

unfoldable pub read_put : Trace → ℕ → ℕ → ℕ → List ℕ → List ℕ
read_put t i k d vs = cond (reads (at t i)) (set vs k (value_of t i d)) vs
