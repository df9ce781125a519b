-- Sums over the numbers below a bound.
--
--   sum n g   == g 0 + g 1 + .. + g (n - 1)
--   num b     == a test as a number: 1 where it passes
use Rattle.std.specs.Prelude.{Bool, true, false, ℕ, zero, suc, ◌+◌}

unfoldable pub sum : ℕ → (ℕ → ℕ) → ℕ
sum zero g = zero
sum (suc n) g = g n + sum n g

unfoldable pub num : Bool → ℕ
num true = 1
num false = 0
