use Prim.Native.Nat.{◌≤◌, ◌/◌}
use Rattle.rows.specs.Bounds.{WIDTH}
use Rattle.rows.proofs.Squares.{Crossing}
use Rattle.rows.proofs.cross.Given as goal

abbrev pub invariant-loop-p : goal.invariant-loop-p
invariant-loop-p l = (l.p ≤ WIDTH / 2) × Crossing l.k l.initial.square l.p l.square
