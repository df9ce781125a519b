-- Rows in which every pair leads to a higher number, so that they can be closed from the last one to the first.
--
--   Forward e       == every pair leads to a higher number
--   ClosedPast e x  == what a number past x leads to in two steps it leads to in one
--   SecondSteps e x == the pairs that row x gets from the rows of the numbers it leads to
use Rattle.std.specs.Prelude.{◌≡◌, List, ℕ, ◌<◌}
use Rattle.laws.specs.Relation.{Rel}
use Rattle.rows.specs.Rows.{Edges}

abbrev pub Forward : List ℕ → Type 0
Forward e = (x y : ℕ) → Edges e x y → x < y

abbrev pub ClosedPast : List ℕ → ℕ → Type 0
ClosedPast e x = (y z w : ℕ) → x < y → Edges e y z → Edges e z w → Edges e y w

abbrev pub SecondSteps : List ℕ → ℕ → Rel
SecondSteps e x i j = (i ≡ x) × ((y : ℕ) × Edges e x y × Edges e y j)
