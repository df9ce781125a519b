use mathlib.Core.Bool.{So}
use mathlib.Core.Logic.{◌⊎◌}
use mathlib.Core.Path.{◌≡◌}
use Prim.Native.Nat.{◌-◌}
use lib.ListN.{length}
use Rattle.rows.specs.Rows.{bit}
use Rattle.search.specs.inner.Refutation.{Sixth, Grown}
use Rattle.trace.specs.Bounds.{RECORDS}
use Rattle.search.proofs.refute.early.Given as goal

abbrev pub invariant-loop-z : goal.invariant-loop-z
invariant-loop-z l = (So (bit l.others 0 l.z) ⊎ (l.z ≡ RECORDS)) × Grown (Sixth l.others l.source) l.initial.led l.led × (length l.changed ≡ length l.initial.changed)

abbrev pub decreases-loop-z : goal.decreases-loop-z
decreases-loop-z l = RECORDS - l.z
