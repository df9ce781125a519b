use mathlib.Core.Path.{◌≡◌}
use mathlib.Core.Logic.{◌⊎◌}
use mathlib.Core.Bool.{So}
use Prim.Native.Nat.{◌-◌}
use Rattle.trace.specs.Bounds.{RECORDS}
use Rattle.rows.specs.Rows.{bit}
use Rattle.edges.specs.inner.ClosedTables.{TakenIn}
use Rattle.edges.proofs.ClosedTables.{UpTo}
use Rattle.edges.proofs.closed.take_row.Given as goal

abbrev pub invariant-loop-b : goal.invariant-loop-b
invariant-loop-b l = (So (bit l.row 0 l.b) ⊎ (l.b ≡ RECORDS)) × TakenIn l.initial.edges l.initial.turned (UpTo l.a l.row l.b) l.edges l.turned

abbrev pub decreases-loop-b : goal.decreases-loop-b
decreases-loop-b l = RECORDS - l.b
