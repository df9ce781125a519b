use mathlib.Core.Path.{◌≡◌}
use Prim.Native.Nat.{◌≤◌}
use lib.ListN.{length}
use Rattle.rows.specs.Bounds.{WORDS}
use Rattle.rows.specs.DropRow.{given_up}
use Rattle.rows.proofs.drop_row.Given as goal

abbrev pub invariant-loop-i : goal.invariant-loop-i
invariant-loop-i l = (l.i ≤ WORDS) × (length l.to ≡ length l.initial.to) × (l.to ≡ given_up l.from l.m l.initial.to l.x l.i)
