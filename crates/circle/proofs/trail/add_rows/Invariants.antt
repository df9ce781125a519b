use mathlib.Core.Path.{◌≡◌}
use mathlib.Core.Logic.{◌⊎◌}
use Prim.Native.Nat.{◌-◌}
use Rattle.trace.specs.Bounds.{RECORDS}
use Rattle.rows.specs.Rows.{Edges}
use Rattle.circle.specs.inner.WalkRows.{Widened}
use Rattle.circle.proofs.WalkRows.{Some}
use Rattle.circle.proofs.Further.{RowsTurn}
use Rattle.circle.proofs.trail.add_rows.Given as goal

abbrev pub invariant-loop-m : goal.invariant-loop-m
invariant-loop-m l = (Edges l.edges l.x l.m ⊎ (l.m ≡ RECORDS)) × Widened l.initial.next (Some l.m (RowsTurn l.edges l.walks l.x)) l.next

abbrev pub decreases-loop-m : goal.decreases-loop-m
decreases-loop-m l = RECORDS - l.m
