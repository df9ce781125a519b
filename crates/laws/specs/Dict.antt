-- Dictionary order on lists of numbers, and the first list of a kind.
--
--   xs ≼ ys      == xs is ys, or stands before it in the dictionary
--   Answer P p a == a answers the search for the first list with P that begins with p: what follows p in it, or nothing
--   Least P a    == a is the first list with P, or nothing where no list has it
use Rattle.std.specs.Prelude.{◌≡◌, ◌⊎◌, List, [], ◌∷◌, ◌++◌, ℕ, ◌<◌}
use Rattle.std.proofs.Math.Option.{Option, none, some}

infix 20 ◌≼◌
abbrev pub ◌≼◌ : List ℕ → List ℕ → Type 0
◌≼◌ [] ys = Unit {0}
◌≼◌ (x ∷ xs) [] = ⊥
◌≼◌ (x ∷ xs) (y ∷ ys) = (x < y) ⊎ ((x ≡ y) × ◌≼◌ xs ys)

abbrev pub Answer : (List ℕ → Type 0) → List ℕ → Option (List ℕ) → Type 0
Answer P p (some r) = P (p ++ r) × ((s : List ℕ) → P (p ++ s) → r ≼ s)
Answer P p none = (s : List ℕ) → P (p ++ s) → ⊥

abbrev pub Least : (List ℕ → Type 0) → Option (List ℕ) → Type 0
Least P = Answer P []
