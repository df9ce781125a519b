-- The least length of a closed walk, and the lowest number with a property.
--
--   LeastWalk E k walks == k is the least length of a closed walk, and the rows have the walks of that length; 0 where there is none
--   LowestBelow n A r == r is the lowest number with A, or n where no number has it
use Rattle.std.specs.Prelude.{◌≡◌, List, ℕ, ◌<◌, ◌≤◌}
use Rattle.std.proofs.Math.Option.{none}
use Rattle.laws.specs.Relation.{Rel}
use Rattle.trace.specs.Bounds.{RECORDS}
use Rattle.circle.specs.inner.WalkRows.{Exactly}
use Rattle.rules.specs.Circle.{Shown}
use Rattle.rules.specs.inner.ExactWalks.{Walk, NoShorter}

pub record LeastWalk (E : Rel) (k : ℕ) (walks : List ℕ) : Type 0 where
  pub within : k ≤ RECORDS
  pub clear : k ≡ 0 → Shown E none
  pub least : 0 < k → NoShorter E k
  pub closed : 0 < k → (x : ℕ) × Walk E k x x
  pub exact : 0 < k → Exactly walks (Walk E k)

pub record LowestBelow (n : ℕ) (A : ℕ → Type 0) (r : ℕ) : Type 0 where
  pub within : r ≤ n
  pub found : r < n → A r
  pub least : (y : ℕ) → A y → r ≤ y
