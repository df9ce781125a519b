-- The lowest number of a kind.
--
--   Lowest A a   == a is the lowest number with A, or nothing where no number has it
--   lowest t k i == the lowest of i, i + 1, .., k of them, that passes t
use Rattle.std.specs.Prelude.{Bool, true, false, ℕ, zero, suc, ◌≤◌}
use Rattle.std.proofs.Math.Option.{Option, none, some}

abbrev pub Lowest : (ℕ → Type 0) → Option ℕ → Type 0
Lowest A (some x) = A x × ((y : ℕ) → A y → x ≤ y)
Lowest A none = (y : ℕ) → A y → ⊥

unfoldable pub lowest : (ℕ → Bool) → ℕ → ℕ → Option ℕ
lowest t zero i = none
lowest t (suc k) i = elim (t i) [ true ↦ some i | false ↦ lowest t k (suc i) ]
