-- What the search remembers: the two sets of a list that failed, and the steps below it. It may forget.
--
--   StandsFor f K p placed served == p was built by the search; `placed` is its set, `served` the set of the reads that it serves
--   Remembered f K placed served c == below every list of at least one operation with these sets the search comes to its end after c steps
use Rattle.std.specs.Prelude.{◌≡◌, ◌↔◌, Bool, List, [], ℕ, ◌-◌, ◌<◌, length}
use Rattle.std.proofs.Math.Bool.{So}
use Rattle.std.proofs.Math.Option.{none}
use Rattle.laws.specs.Places.{count}
use Rattle.laws.specs.Relation.{Table}
use Rattle.laws.specs.inner.Steps.{Steps}
use Rattle.rules.specs.Frame.{Frame}
use Rattle.rules.specs.Ready.{operations}
use Rattle.plain.specs.Plain.{Next, plain}
use Rattle.plain.specs.inner.SameBelow.{Served}

pub record StandsFor (f : Frame) (K : Table) (p : List ℕ) (placed served : ℕ → Bool) : Type 0 where
  pub built : Steps (Next f K) [] p
  pub holds : (x : ℕ) → So (placed x) ↔ (0 < count x p)
  pub serves : (c : ℕ) → So (served c) ↔ Served f p c

abbrev pub Remembered : Frame → Table → (ℕ → Bool) → (ℕ → Bool) → ℕ → Type 0
Remembered f K placed served c = (p : List ℕ) → StandsFor f K p placed served → 0 < length p → plain f K (operations f - length p) p ≡ (c, none)
