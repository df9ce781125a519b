use Prim.Native.Nat.{◌-◌}
use Rattle.trace.specs.Bounds.{RECORDS}
use Rattle.rows.proofs.Forwards.{Extending}
use Rattle.rows.proofs.extend.Given as goal

abbrev pub invariant-loop-y : goal.invariant-loop-y
invariant-loop-y l = Extending l.initial.rows l.x l.y l.rest l.rows

abbrev pub decreases-loop-y : goal.decreases-loop-y
decreases-loop-y l = RECORDS - l.y
