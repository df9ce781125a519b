-- Tables that grow.
--
--   pairs n t   == how many pairs of numbers below n pass the table t
--   Still n t k == of the tables t 0, t 1, .., the one after t k has no pair below n more than t k has
use mathlib.Core.Bool.{So}
use Prim.Native.Nat.{ℕ, suc, ◌<◌}
use Rattle.laws.specs.Relation.{Table}
use Rattle.laws.specs.Sums.{sum, num}

unfoldable pub pairs : ℕ → Table → ℕ
pairs n t = sum n (λ x. sum n (λ y. num (t x y)))

unfoldable pub Still : ℕ → (ℕ → Table) → ℕ → Type 0
Still n t k = (x y : ℕ) → x < n → y < n → So (t (suc k) x y) → So (t k x y)
