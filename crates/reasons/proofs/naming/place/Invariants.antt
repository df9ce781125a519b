use Prim.Native.Nat.{◌≤◌}
use Rattle.laws.proofs.LowestLoops.{NoneBelow}
use Rattle.reasons.proofs.Places.{Here}
use Rattle.reasons.proofs.naming.place.Given as goal

abbrev pub invariant-loop-i : goal.invariant-loop-i
invariant-loop-i l = (l.i ≤ l.count) × NoneBelow (Here l.from l.to l.count l.x l.y) l.i
