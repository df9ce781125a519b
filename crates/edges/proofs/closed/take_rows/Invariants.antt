use Prim.Native.Nat.{◌≤◌}
use Rattle.rows.specs.Rows.{Words}
use Rattle.edges.specs.inner.ClosedTables.{TakenIn}
use Rattle.edges.proofs.ClosedTables.{RowsTo}
use Rattle.edges.proofs.closed.take_rows.Given as goal

abbrev pub invariant-loop-x : goal.invariant-loop-x
invariant-loop-x l = (l.x ≤ l.n) × ((words : Words l.pairs) → TakenIn l.initial.edges l.initial.turned (RowsTo l.pairs words l.x) l.edges l.turned)
