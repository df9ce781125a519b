use mathlib.Core.Path.{◌≡◌}
use Prim.Native.Nat.{◌≤◌}
use lib.ListN.{length}
use Rattle.trace.specs.Bounds.{RECORDS}
use Rattle.rows.specs.Bounds.{CELLS}
use Rattle.circle.specs.inner.WalkRows.{Widened}
use Rattle.circle.proofs.WalkRows.{Some}
use Rattle.circle.proofs.Further.{AllTurn}
use Rattle.circle.proofs.trail.further.Given as goal

abbrev pub invariant-loop-x : goal.invariant-loop-x
invariant-loop-x l = (l.x ≤ RECORDS) × (length l.initial.next ≡ CELLS) × Widened l.initial.next (Some l.x (AllTurn l.edges l.walks)) l.next
