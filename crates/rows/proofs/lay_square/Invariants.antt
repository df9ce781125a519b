use Prim.Native.Nat.{◌≤◌}
use Rattle.rows.specs.Bounds.{WIDTH}
use Rattle.rows.proofs.Turning.{LayingSquare}
use Rattle.rows.proofs.lay_square.Given as goal

abbrev pub invariant-loop-i : goal.invariant-loop-i
invariant-loop-i l = (l.i ≤ WIDTH) × LayingSquare l.initial.out l.square l.n l.p l.q l.i l.out
