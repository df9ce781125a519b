use mathlib.Core.Path.{◌≡◌}
use Prim.Native.Nat.{◌-◌}
use lib.ListN.{length}
use Rattle.search.specs.inner.Refutation.{Parted, Grown}
use Rattle.trace.specs.Bounds.{RECORDS}
use Rattle.search.proofs.refute.lead.Given as goal

abbrev pub invariant-loop-y : goal.invariant-loop-y
invariant-loop-y l = Grown (Parted l.ahead l.heads) l.initial.led l.led × (length l.changed ≡ length l.initial.changed)

abbrev pub decreases-loop-y : goal.decreases-loop-y
decreases-loop-y l = RECORDS - l.y
