use mathlib.Core.Path.{◌≡◌}
use Prim.Native.Nat.{◌≤◌}
use lib.ListN.{take}
use Rattle.text.specs.Room.{put_at}
use Rattle.packed.specs.Layout.{record_bytes}
use Rattle.packed.proofs.packing.put_records.Given as goal

abbrev pub invariant-loop-i : goal.invariant-loop-i
invariant-loop-i l = (l.i ≤ l.t.len) × (l.out ≡ put_at (record_bytes (take l.i l.t.records)) l.initial.out l.from)
