use mathlib.Core.Bool.{So}
use mathlib.Core.Logic.{◌⊎◌}
use mathlib.Core.Path.{◌≡◌}
use Prim.Native.Nat.{◌-◌}
use Rattle.trace.specs.Bounds.{RECORDS}
use Rattle.rows.specs.Rows.{bit}
use Rattle.search.proofs.split.partner.Given as goal

abbrev pub invariant-loop-y : goal.invariant-loop-y
invariant-loop-y l = So (bit l.others 0 l.y) ⊎ (l.y ≡ RECORDS)

abbrev pub decreases-loop-y : goal.decreases-loop-y
decreases-loop-y l = RECORDS - l.y
