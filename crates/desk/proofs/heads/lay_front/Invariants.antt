use mathlib.Core.Path.{◌≡◌}
use mathlib.Core.List.{◌++◌}
use Prim.Native.Nat.{◌≤◌}
use lib.ListN.{length, drop}
use Rattle.laws.specs.ListOf.{row}
use Rattle.desk.specs.SessionHead.{FRONT, front_at}
use Rattle.desk.proofs.heads.lay_front.Given as goal

abbrev pub invariant-loop-i : goal.invariant-loop-i
invariant-loop-i l = (l.i ≤ FRONT) × (length l.out ≡ length l.initial.out) × (l.out ≡ row (front_at l.s) 0 l.i ++ drop l.i l.initial.out)
