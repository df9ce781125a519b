-- A search for the first list of a kind, place by place, that tries 0, 1, 2, .. at each.
--
--   ListsOf P n m == P holds of lists of m numbers below n only
--   Tried P p i == no list with P goes on after p with a number below i
use Rattle.std.specs.Prelude.{◌≡◌, List, ◌∷◌, ◌++◌, ℕ, ◌<◌, length}

pub record ListsOf (P : List ℕ → Type 0) (n m : ℕ) : Type 0 where
  pub long : (xs : List ℕ) → P xs → length xs ≡ m
  pub under : (p : List ℕ) (c : ℕ) (s : List ℕ) → P (p ++ c ∷ s) → c < n

unfoldable pub Tried : (List ℕ → Type 0) → List ℕ → ℕ → Type 0
Tried P p i = (c : ℕ) (s : List ℕ) → c < i → P (p ++ c ∷ s) → ⊥
