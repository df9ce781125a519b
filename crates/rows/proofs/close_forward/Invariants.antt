use Prim.Native.Nat.{◌≤◌}
use Rattle.trace.specs.Bounds.{RECORDS}
use Rattle.rows.proofs.Forwards.{ClosedFrom}
use Rattle.rows.proofs.close_forward.Given as goal

abbrev pub invariant-loop-x : goal.invariant-loop-x
invariant-loop-x l = (l.x ≤ RECORDS) × ClosedFrom l.initial.rows l.x l.rows
