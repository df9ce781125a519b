-- The edges that can lie on a circle.
--
--   Others C set     == the set has the records that are in no pair with themselves in C
--   Between E C x y  == an edge of E whose ends are both in a pair with themselves in C
--   RingOf E C ring  == the rows have those edges and no others
use Rattle.std.specs.Prelude.{◌≡◌, ◌↔◌, List, ℕ, ◌<◌, length}
use Rattle.std.proofs.Math.Bool.{So}
use Rattle.laws.specs.Relation.{Rel}
use Rattle.trace.specs.Bounds.{RECORDS}
use Rattle.rows.specs.Bounds.{CELLS}
use Rattle.rows.specs.Rows.{bit, Edges}
use Rattle.circle.specs.inner.WalkRows.{Exactly}

abbrev pub Others : List ℕ → List ℕ → Type 0
Others C set = (y : ℕ) → So (bit set 0 y) ↔ ((y < RECORDS) × (Edges C y y → ⊥))

abbrev pub Between : List ℕ → List ℕ → Rel
Between E C x y = Edges E x y × Edges C x x × Edges C y y

pub record RingOf (E C ring : List ℕ) : Type 0 where
  pub long : length ring ≡ CELLS
  pub pairs : Exactly ring (Between E C)
