-- From where an operation is reached.
--
--   StepBack E R j           == row j + 1 gets what has an edge to something that row j of R has
--   Reach E s k rows         == row j has the operations from which s is reached in exactly j steps, for each j below k
--   Followed E rows s k room == k steps lead from s back to s, the rows say from where s is reached, and there is room for the way
--   LaidWay E s k before after == the first k places have the way by the lowest such steps; the others are as before
use Rattle.std.specs.Prelude.{◌≡◌, List, ℕ, ◌+◌, ◌<◌, ◌≤◌, length, get_or, take}
use Rattle.laws.specs.Relation.{Rel}
use Rattle.trace.specs.Bounds.{RECORDS}
use Rattle.circle.specs.inner.WalkRows.{Exactly}
use Rattle.rules.specs.inner.ExactWalks.{Walk, Traced}

abbrev pub StepBack : Rel → Rel → ℕ → Rel
StepBack E R j i x = (i ≡ j + 1) × ((m : ℕ) × E x m × R j m)

abbrev pub Reach : Rel → ℕ → ℕ → List ℕ → Type 0
Reach E s k rows = Exactly rows (λ j x. (j < k) × Walk E j x s)

pub record Followed (E : Rel) (rows : List ℕ) (s k room : ℕ) : Type 0 where
  pub start : s < RECORDS
  pub some : 0 < k
  pub fits : k ≤ room
  pub reach : Reach E s k rows
  pub closed : Walk E k s s

pub record LaidWay (E : Rel) (s k : ℕ) (before after : List ℕ) : Type 0 where
  pub long : length after ≡ length before
  pub way : Traced E k s (take k after)
  pub rest : (i : ℕ) → k ≤ i → get_or after i 0 ≡ get_or before i 0
