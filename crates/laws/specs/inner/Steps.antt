-- Lists built number by number.
--
--   Steps R q xs == after q each of xs in turn may follow: R says so of what stands before it
--   Same p q     == p and q have the same numbers in them
use Rattle.std.specs.Prelude.{◌↔◌, List, [], ◌∷◌, ◌++◌, ℕ, ◌<◌}
use Rattle.laws.specs.Places.{count}

abbrev pub Steps : (List ℕ → ℕ → Type 0) → List ℕ → List ℕ → Type 0
Steps R q [] = Unit {0}
Steps R q (c ∷ xs) = R q c × Steps R (q ++ (c ∷ [])) xs

abbrev pub Same : List ℕ → List ℕ → Type 0
Same p q = (x : ℕ) → (0 < count x p) ↔ (0 < count x q)
