-- A list given by what stands at each place.
--
--   row g i k    == g i, g (i + 1), .., k of them
use Rattle.std.specs.Prelude.{List, [], ◌∷◌, ℕ, zero, suc}

unfoldable pub row {ℓ} : {A : Type ℓ} → (ℕ → A) → ℕ → ℕ → List A
row g i zero = []
row g i (suc k) = g i ∷ row g (suc i) k
