-- The sources of all records at once.
--
--   SourcesOf t r == r has a place for each number of a record, and there its source; RECORDS everywhere for a trace that says it has more records than it has room for
use Rattle.std.specs.Prelude.{◌≡◌, List, ℕ, ◌<◌, ◌≤◌, length, get_or}
use Rattle.trace.specs.Bounds.{RECORDS}
use Rattle.trace.specs.Meaning.{frame_of}
use Rattle.trace.specs.declared.Trace.{Trace}
use Rattle.pairs.specs.SourceOf.{source_of}

pub record SourcesOf (t : Trace) (r : List ℕ) : Type 0 where
  pub long : length r ≡ RECORDS
  pub source : t.len ≤ RECORDS → (L : ℕ) → L < RECORDS → get_or r L 0 ≡ source_of (frame_of t) L
  pub other : RECORDS < t.len → (L : ℕ) → L < RECORDS → get_or r L 0 ≡ RECORDS
