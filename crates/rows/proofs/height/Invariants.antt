use Prim.Native.Nat.{◌≤◌}
use Rattle.trace.specs.Bounds.{RECORDS}
use Rattle.rows.specs.inner.AddedPairs.{RowsBelow}
use Rattle.rows.proofs.height.Given as goal

abbrev pub invariant-loop-x : goal.invariant-loop-x
invariant-loop-x l = (l.x ≤ RECORDS) × RowsBelow l.rows l.x
