-- Places of numbers in a list.
--
--   pos xs x      == where x first stands in xs; the length of xs if it does not
--   count x xs    == how often x stands in xs
--   Before xs x y == x stands before y in xs
use Rattle.std.specs.Prelude.{cond, List, [], ◌∷◌, ℕ, zero, suc, ◌<◌, eqb}

unfoldable pub pos : List ℕ → ℕ → ℕ
pos [] x = zero
pos (y ∷ ys) x = cond (eqb x y) zero (suc (pos ys x))

unfoldable pub count : ℕ → List ℕ → ℕ
count x [] = zero
count x (y ∷ ys) = cond (eqb x y) (suc (count x ys)) (count x ys)

abbrev pub Before : List ℕ → ℕ → ℕ → Type 0
Before xs x y = pos xs x < pos xs y
