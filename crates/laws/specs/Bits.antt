-- The bits of a number.
--
--   bit_of n j == bit j of n, counted from the lowest
use Rattle.std.specs.Prelude.{Bool, ℕ, ◌/◌, ◌%◌, ◌^◌, eqb}

unfoldable pub bit_of : ℕ → ℕ → Bool
bit_of n j = eqb (n / 2 ^ j % 2) 1
