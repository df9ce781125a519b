use Prim.Native.Nat.{◌≤◌}
use Rattle.rows.specs.Bounds.{WORDS}
use Rattle.rows.proofs.Closing.{Joining}
use Rattle.rows.proofs.join.Given as goal

abbrev pub invariant-loop-i : goal.invariant-loop-i
invariant-loop-i l = (l.i ≤ WORDS) × Joining l.initial.rows l.x l.k l.i l.rows
