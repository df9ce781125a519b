-- The last number that passes a test.
--
--   last_of t w d k   == w of the last i below k that passes t; d where none does
--   Latest t w d k v == v is d, and no number below k passes t; or v is w of the last that does
use Rattle.std.specs.Prelude.{◌≡◌, Bool, cond, ℕ, zero, suc, ◌≤◌, ◌<◌}
use Rattle.std.proofs.Math.Bool.{So}

unfoldable pub last_of : (ℕ → Bool) → (ℕ → ℕ) → ℕ → ℕ → ℕ
last_of t w d zero = d
last_of t w d (suc k) = cond (t k) (w k) (last_of t w d k)

pub data Latest (t : ℕ → Bool) (w : ℕ → ℕ) (d k v : ℕ) : Type 0 where
  nobody-yet : v ≡ d → ((i : ℕ) → i < k → So (t i) → ⊥) → Latest t w d k v
  at : (j : ℕ) → j < k → v ≡ w j → So (t j) → ((i : ℕ) → i < k → So (t i) → i ≤ j) → Latest t w d k v
