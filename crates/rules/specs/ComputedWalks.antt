-- The circle shown as walks find it, computed; proofs/Shown.antt shows that it is the one.
--
--   walk? n e j x y  == j edges in a row lead from x to y, as a test over a table below n
--   follow n e s j x == the j lowest steps from x that lead to s in one step more
--   shown? n e       == the circle shown
use Rattle.std.specs.Prelude.{◌&&◌, List, [], ◌∷◌, ℕ, zero, suc, eqb}
use Rattle.std.proofs.Math.Option.{Option, none, some}
use Rattle.laws.specs.Tests.{any}
use Rattle.laws.specs.Relation.{Table}
use Rattle.laws.specs.Warshall.{memo}
use Rattle.laws.specs.Lowest.{lowest}

unfoldable pub walk? : ℕ → Table → ℕ → Table
walk? n e zero = memo n eqb
walk? n e (suc j) = let w = walk? n e j in memo n (λ x y. any n (λ m. e x m && w m y))

unfoldable pub follow : ℕ → Table → ℕ → ℕ → ℕ → List ℕ
follow n e s zero x = []
follow n e s (suc j) x = elim (lowest (λ y. e x y && walk? n e (suc j) y s) n 0) [ some y ↦ y ∷ follow n e s j y | none ↦ [] ]

unfoldable pub shown? : ℕ → Table → Option (List ℕ)
shown? n e = elim (lowest (λ j. any n (λ x. walk? n e (suc j) x x)) n 0) [
  | some j ↦ elim (lowest (λ x. walk? n e (suc j) x x) n 0) [ some s ↦ some (s ∷ follow n e s j s) | none ↦ none ]
  | none ↦ none
]
