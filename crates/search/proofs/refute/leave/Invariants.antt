use Prim.Native.Nat.{◌-◌}
use Rattle.search.specs.inner.Refutation.{Partly}
use Rattle.trace.specs.Bounds.{RECORDS}
use Rattle.search.proofs.refute.leave.Given as goal

abbrev pub invariant-loop-y : goal.invariant-loop-y
invariant-loop-y l = Partly l.before l.initial.led l.led

abbrev pub decreases-loop-y : goal.decreases-loop-y
decreases-loop-y l = RECORDS - l.y
