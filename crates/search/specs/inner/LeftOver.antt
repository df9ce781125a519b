-- What one row has and another has not.
--
--   LeftOver from x out y r == r is the set of what row x of `from` has and row y of `out` has not
use Rattle.std.specs.Prelude.{◌≡◌, ◌↔◌, List, ℕ, length}
use Rattle.std.proofs.Math.Bool.{So}
use Rattle.rows.specs.Bounds.{WORDS}
use Rattle.rows.specs.Rows.{bit}

pub record LeftOver (from : List ℕ) (x : ℕ) (out : List ℕ) (y : ℕ) (r : List ℕ) : Type 0 where
  pub long : length r ≡ WORDS
  pub has : (z : ℕ) → So (bit r 0 z) ↔ (So (bit from x z) × (So (bit out y z) → ⊥))
