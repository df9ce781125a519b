use mathlib.Core.Path.{◌≡◌}
use Prim.Native.Nat.{◌+◌, ◌*◌, ◌-◌, ◌≤◌}
use lib.ListN.{drop}
use Rattle.trace.specs.Bounds.{RECORDS}
use Rattle.packed.specs.Layout.{RECORD}
use Rattle.packed.specs.FileRead.{read_records}
use Rattle.packed.proofs.unpacking.records_in.Given as goal

abbrev pub invariant-loop-i : goal.invariant-loop-i
invariant-loop-i l = (l.i ≤ l.count) × (l.trace.len ≤ RECORDS) × (read_records l.trace (drop (l.from + RECORD * l.i) l.bytes) (l.count - l.i) ≡ read_records l.initial.trace (drop l.from l.bytes) l.count)
