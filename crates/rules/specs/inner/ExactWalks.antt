-- Walks of an exact length, and the way that is shown: it begins at the lowest operation on a shortest closed walk, and goes on by the lowest
-- steps that still lead back in time.
--
--   Walk E j x y     == j edges in a row lead from x to y
--   NoShorter E k    == no closed walk is shorter than k
--   Way E s x xs     == xs are the lowest steps from x that lead to s: each is the lowest from which s can still be reached in exactly the steps left
--   Traced E k s c   == c begins with s, has k numbers and goes on by the lowest steps that lead back to s; said place by place
use Rattle.std.specs.Prelude.{◌≡◌, List, [], ◌∷◌, ℕ, zero, suc, ◌+◌, ◌<◌, length, get_or}
use Rattle.std.proofs.Math.Option.{some}
use Rattle.laws.specs.Relation.{Rel}
use Rattle.laws.specs.Lowest.{Lowest}

abbrev pub Walk : Rel → ℕ → Rel
Walk E zero x y = x ≡ y
Walk E (suc j) x y = (m : ℕ) × E x m × Walk E j m y

unfoldable pub NoShorter : Rel → ℕ → Type 0
NoShorter E k = (j x : ℕ) → 0 < j → j < k → Walk E j x x → ⊥

abbrev pub Way : Rel → ℕ → ℕ → List ℕ → Type 0
Way E s x [] = E x s
Way E s x (y ∷ ys) = Lowest (λ z. E x z × Walk E (suc (length ys)) z s) (some y) × Way E s y ys

pub record Traced (E : Rel) (k s : ℕ) (c : List ℕ) : Type 0 where
  pub long : length c ≡ k
  pub begins : get_or c 0 0 ≡ s
  -- after place i and the step to the next place, suc j steps are left
  pub steps : (i j : ℕ) → suc i + suc j ≡ k → Lowest (λ y. E (get_or c i 0) y × Walk E (suc j) y s) (some (get_or c (suc i) 0))
