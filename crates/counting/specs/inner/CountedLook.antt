-- What the counted search from nothing placed leaves behind.
--
--   CountedLook f K m l list list' r == r, and the first m places of list', are what the search from nothing placed brings back; the places from m on stand
use Rattle.std.specs.Prelude.{◌≡◌, List, [], ℕ, ◌≤◌, get_or, take}
use Rattle.laws.specs.Relation.{Table}
use Rattle.rules.specs.Frame.{Frame}
use Rattle.plain.specs.Plain.{plain}
use Rattle.counting.specs.inner.CountedWalk.{Brings, FitsBudget}
use Rattle.counting.specs.declared.Walked.{Walked}

pub record CountedLook (f : Frame) (K : Table) (m l : ℕ) (list list' : List ℕ) (r : Walked) : Type 0 where
  pub rest : (i : ℕ) → m ≤ i → get_or list' i 0 ≡ get_or list i 0
  pub brings : Brings (plain f K m []) (take m list') l r
  pub within : FitsBudget l r
