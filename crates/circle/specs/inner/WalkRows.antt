-- What rows hold after pairs were added to them.
--
--   Exactly rows R       == the rows have the pairs of R and no others
--   Widened before A after == the rows have what they had, and the pairs of A
--   StepThen E W         == an edge of E, and then a pair of W
use Rattle.std.specs.Prelude.{◌≡◌, ◌⊎◌, ◌↔◌, List, ℕ, length}
use Rattle.std.proofs.Math.Bool.{So}
use Rattle.laws.specs.Relation.{Rel}
use Rattle.rows.specs.Rows.{bit, Edges}

abbrev pub Exactly : List ℕ → Rel → Type 0
Exactly rows R = (x y : ℕ) → So (bit rows x y) ↔ R x y

pub record Widened (before : List ℕ) (A : Rel) (after : List ℕ) : Type 0 where
  pub long : length after ≡ length before
  pub pairs : (x y : ℕ) → So (bit after x y) ↔ (Edges before x y ⊎ A x y)

abbrev pub StepThen : Rel → Rel → Rel
StepThen E W x y = (m : ℕ) × E x m × W m y
