-- The answer under a step limit, computed; Limited.antt shows that it is the one.
--
--   within_limit f K l v == v with its count, if that is within the limit
--   plainly f K    == the verdict, by the plain search
--   limited? f K l == the answer at the limit l, computed
use mathlib.Core.Bool.{cond}
use mathlib.Core.Option.{none, some}
use Prim.Native.Nat.{ℕ}
use lib.Dec.{leb}
use Rattle.laws.specs.Relation.{Table}
use Rattle.laws.specs.Lowest.{lowest}
use Rattle.rules.specs.Frame.{Frame}
use Rattle.rules.specs.Missing.{missing?}
use Rattle.rules.specs.inner.ComputedCircle.{circled?}
use Rattle.rules.specs.Verdict.{Verdict, no_source, circle, order, none_left}
use Rattle.plain.specs.Plain.{plain_order}
use Rattle.plain.specs.Limited.{Limited, counted, decided, undecided}

abbrev pub within_limit : Frame → Table → ℕ → Verdict → Limited
within_limit f K l v = cond (leb (counted f K v) l) (decided v (counted f K v)) (undecided l)

unfoldable pub plainly : Frame → Table → Verdict
plainly f K = elim (lowest (missing? f) f.records 0) [
  | some x ↦ no_source x
  | none ↦ elim (circled? f K) [
    | some c ↦ circle c.0 c.1
    | none ↦ elim (plain_order f K) [ some xs ↦ order xs | none ↦ none_left ]
  ]
]

abbrev pub limited? : Frame → Table → ℕ → Limited
limited? f K l = within_limit f K l (plainly f K)
