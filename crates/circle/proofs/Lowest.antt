-- Numbers tried one after the other, the lowest of a kind below a bound.
--
--   lowest-found, lowest-past == the first that is of the kind; none is
--   lowest-some               == where one is, the lowest is found
use mathlib.Core.Path.{◌≡◌}
use mathlib.Core.Option.{some}
use Prim.Native.Nat.{ℕ, ◌<◌}
use native.Mathlib.Decide.{dec_le}
use native.Mathlib.Omega.{arith}
use Rattle.laws.specs.Lowest.{Lowest}
use Rattle.circle.specs.inner.LeastWalk.{LowestBelow}

module _ (n : ℕ) (A : ℕ → Type 0) where
  pub lowest-found : (r : ℕ) → r < n → ((y : ℕ) → y < r → A y → ⊥) → A r → LowestBelow n A r
  lowest-found r l none a =
      record { within = omega arith; found = λ _. a; least = λ y b. elim (dec_le r y) [ yes h ↦ h | no h ↦ absurd (none y (omega arith) b) ] }

  module _ (below : (y : ℕ) → A y → y < n) where
    pub lowest-past : (r : ℕ) → r ≡ n → ((y : ℕ) → y < r → A y → ⊥) → LowestBelow n A r
    lowest-past r e none =
        record { within = omega arith; found = λ l. absurd (omega arith); least = λ y b. absurd (none y (omega (arith, below y b)) b) }

    pub lowest-some : (r y : ℕ) → LowestBelow n A r → A y → (r < n) × Lowest A (some r)
    lowest-some r y l a = let h : r < n = omega (arith, l.least y a, below y a) in (h, (l.found h, l.least))
