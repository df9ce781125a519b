use Prim.Native.Nat.{◌≤◌}
use Rattle.trace.specs.Bounds.{RECORDS}
use Rattle.circle.proofs.Ring.{RingBelow}
use Rattle.circle.proofs.trail.lay_ring.Given as goal

abbrev pub invariant-loop-x : goal.invariant-loop-x
invariant-loop-x l = (l.x ≤ RECORDS) × RingBelow l.edges l.chains l.x l.ring
