use mathlib.Core.Path.{◌≡◌}
use mathlib.Core.List.{◌++◌}
use Prim.Native.Nat.{◌≤◌, ◌-◌}
use lib.ListN.{length, take}
use Rattle.trace.specs.Bounds.{RECORDS}
use Rattle.rows.specs.Rows.{bit}
use Rattle.reasons.specs.Ways.{way_of}
use Rattle.reasons.proofs.paths.way.Given as goal

abbrev pub invariant-loop-i : goal.invariant-loop-i
invariant-loop-i l = (l.i ≤ RECORDS) × (length l.out ≡ RECORDS) × (take l.i l.out ++ way_of (bit l.edges) (bit l.chains) (RECORDS - l.i) l.x l.b ≡ way_of (bit l.edges) (bit l.chains) RECORDS l.a l.b)
