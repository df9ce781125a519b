use Prim.Native.Nat.{◌≤◌}
use Rattle.trace.specs.Bounds.{RECORDS}
use Rattle.rows.specs.Rows.{Edges}
use Rattle.circle.specs.inner.WalkRows.{Widened}
use Rattle.circle.proofs.WalkRows.{Some}
use Rattle.circle.proofs.BackSteps.{BackTurn}
use Rattle.circle.proofs.trail.back.Given as goal

abbrev pub invariant-loop-x : goal.invariant-loop-x
invariant-loop-x l = (l.x ≤ RECORDS) × Widened l.initial.reach (Some l.x (BackTurn (Edges l.edges) (Edges l.initial.reach) l.j)) l.reach
