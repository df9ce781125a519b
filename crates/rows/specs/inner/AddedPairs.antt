-- Rows that hold more than before: what a turn of the closing does, whether bit by bit or a row at a time.
--
--   Added before New after == `after` holds what `before` held and the pairs of New
--   Row e x k              == the pairs that row k of e gives to row x
--   Through e k            == the pairs that lead through k in e
--   RowsBelow e n          == only rows below n have pairs
use Rattle.std.specs.Prelude.{◌≡◌, ◌⊎◌, ◌↔◌, List, ℕ, ◌<◌, length}
use Rattle.std.proofs.Math.Bool.{So}
use Rattle.laws.specs.Relation.{Rel}
use Rattle.rows.specs.Rows.{bit, Edges, Words}

pub record Added (before : List ℕ) (New : Rel) (after : List ℕ) : Type 0 where
  pub long : length after ≡ length before
  pub words : Words before → Words after
  pub pairs : (i j : ℕ) → So (bit after i j) ↔ (Edges before i j ⊎ New i j)

abbrev pub Row : List ℕ → ℕ → ℕ → Rel
Row e x k i j = (i ≡ x) × Edges e k j

abbrev pub Through : List ℕ → ℕ → Rel
Through e k i j = Edges e i k × Edges e k j

abbrev pub RowsBelow : List ℕ → ℕ → Type 0
RowsBelow e n = (x y : ℕ) → Edges e x y → x < n
