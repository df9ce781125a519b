-- Rows that hold no pair.
--
--   empty_of n == n words of 0
use Rattle.std.specs.Prelude.{List, ℕ, replicate}

abbrev pub empty_of : ℕ → List ℕ
empty_of n = replicate n 0
