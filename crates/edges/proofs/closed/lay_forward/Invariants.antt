use Prim.Native.Nat.{◌≤◌}
use Rattle.rows.specs.Rows.{Words}
use Rattle.edges.proofs.ClosedTables.{Forwards}
use Rattle.edges.proofs.closed.lay_forward.Given as goal

abbrev pub invariant-loop-x : goal.invariant-loop-x
invariant-loop-x l = (l.x ≤ l.n) × ((words : Words l.edges) → Forwards l.edges words l.x l.below l.chains)
