-- Numbers in a row that pass a test.
--
--   picks q i k == i, i + 1, .., k of them that pass q
use Rattle.std.specs.Prelude.{Bool, cond, List, [], ◌∷◌, ℕ, zero, suc}

unfoldable pub picks : (ℕ → Bool) → ℕ → ℕ → List ℕ
picks q i zero = []
picks q i (suc k) = cond (q i) (i ∷ picks q (suc i) k) (picks q (suc i) k)
