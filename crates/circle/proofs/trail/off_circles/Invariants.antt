use Prim.Native.Nat.{◌≤◌}
use Rattle.trace.specs.Bounds.{RECORDS}
use Rattle.circle.proofs.Ring.{OthersBelow}
use Rattle.circle.proofs.trail.off_circles.Given as goal

abbrev pub invariant-loop-x : goal.invariant-loop-x
invariant-loop-x l = (l.x ≤ RECORDS) × OthersBelow l.chains l.x l.others
