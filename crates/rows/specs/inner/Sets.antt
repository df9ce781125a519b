-- Sets of record numbers, each one row.
--
--   Holds set p     == the set has exactly the numbers of the list p
--   More set y next == next has y and the numbers of the set
use Rattle.std.specs.Prelude.{◌≡◌, ◌⊎◌, ◌↔◌, List, ℕ, ◌<◌, length}
use Rattle.std.proofs.Math.Bool.{So}
use Rattle.laws.specs.Places.{count}
use Rattle.rows.specs.Bounds.{WORDS}
use Rattle.rows.specs.Rows.{bit}

abbrev pub Holds : List ℕ → List ℕ → Type 0
Holds set p = (x : ℕ) → So (bit set 0 x) ↔ (0 < count x p)

pub record More (set : List ℕ) (y : ℕ) (next : List ℕ) : Type 0 where
  pub long : length next ≡ WORDS
  pub has : (x : ℕ) → So (bit next 0 x) ↔ (So (bit set 0 x) ⊎ (x ≡ y))
