-- The numbers of a row, one after the other.
--
--   NextInRow rows x from r == r is the lowest number from `from` on that is in a pair with x; RECORDS where there is none
use Rattle.std.specs.Prelude.{◌≡◌, ◌⊎◌, List, ℕ, ◌<◌, ◌≤◌}
use Rattle.std.proofs.Math.Bool.{So}
use Rattle.trace.specs.Bounds.{RECORDS}
use Rattle.rows.specs.Rows.{bit}

pub record NextInRow (rows : List ℕ) (x from r : ℕ) : Type 0 where
  pub skips : (z : ℕ) → from ≤ z → z < r → So (bit rows x z) → ⊥
  pub there : ((from ≤ r) × So (bit rows x r)) ⊎ (r ≡ RECORDS)
