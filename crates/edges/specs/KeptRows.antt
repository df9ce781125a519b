-- The kept pairs of a trace under a model, as rows.
--
--   KeptRows t m r == r has the kept pairs; of a trace with more records than there are rows it has none
use Rattle.std.specs.Prelude.{◌≡◌, List, ℕ, ◌≤◌, ◌<◌}
use Rattle.trace.specs.Bounds.{RECORDS}
use Rattle.trace.specs.declared.Trace.{Trace}
use Rattle.rows.specs.Bounds.{CELLS}
use Rattle.rows.specs.Rows.{bit}
use Rattle.rows.specs.Empty.{empty_of}
use Rattle.pairs.specs.Kept.{kept_of}
use Rattle.edges.specs.LastRound.{Full}

pub record KeptRows (t : Trace) (m : ℕ) (r : List ℕ) : Type 0 where
  pub full : Full r
  pub has : t.len ≤ RECORDS → (x y : ℕ) → bit r x y ≡ kept_of m t x y
  pub none : RECORDS < t.len → r ≡ empty_of CELLS
