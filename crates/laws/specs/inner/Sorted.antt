-- Numbers sorted by a table.
--
--   On H          == a table as a relation
--   insert H x ys == x put before the first of ys that it must precede
--   sorted t H k  == the numbers below k that pass t, sorted by H
use Rattle.std.specs.Prelude.{Bool, true, false, List, [], ◌∷◌, ℕ, zero, suc}
use Rattle.std.proofs.Math.Bool.{So}
use Rattle.laws.specs.Relation.{Rel, Table}

abbrev pub On : Table → Rel
On H x y = So (H x y)

unfoldable pub insert : Table → ℕ → List ℕ → List ℕ
insert H x [] = x ∷ []
insert H x (y ∷ ys) = elim (H x y) [ true ↦ x ∷ y ∷ ys | false ↦ y ∷ insert H x ys ]

unfoldable pub sorted : (ℕ → Bool) → Table → ℕ → List ℕ
sorted t H zero = []
sorted t H (suc k) = elim (t k) [ true ↦ insert H k (sorted t H k) | false ↦ sorted t H k ]
