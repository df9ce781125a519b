use mathlib.Core.Path.{◌≡◌}
use mathlib.Core.List.{◌++◌}
use Prim.Native.Nat.{◌≤◌}
use lib.ListN.{length, drop}
use Rattle.laws.specs.ListOf.{row}
use Rattle.desk.specs.SessionHead.{TABLE, table_at}
use Rattle.desk.proofs.heads.lay_table.Given as goal

abbrev pub invariant-loop-i : goal.invariant-loop-i
invariant-loop-i l = (l.i ≤ TABLE) × (length l.out ≡ length l.initial.out) × (l.out ≡ row (table_at l.held) 0 l.i ++ drop l.i l.initial.out)
