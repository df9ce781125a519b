use Prim.Native.Nat.{◌≤◌}
use Rattle.rows.proofs.Closing.{Passing}
use Rattle.rows.proofs.pass.Given as goal

abbrev pub invariant-loop-x : goal.invariant-loop-x
invariant-loop-x l = (l.x ≤ l.n) × Passing l.initial.rows l.k l.x l.rows
