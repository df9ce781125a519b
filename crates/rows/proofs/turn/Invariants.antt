use Prim.Native.Nat.{◌≤◌, ◌*◌}
use Rattle.rows.specs.Bounds.{WORDS}
use Rattle.rows.proofs.Turning.{Turning}
use Rattle.rows.proofs.turn.Given as goal

abbrev pub invariant-loop-c : goal.invariant-loop-c
invariant-loop-c l = (l.c ≤ WORDS * WORDS) × Turning l.rows l.n l.c l.out
