use mathlib.Core.Path.{◌≡◌}
use Prim.Native.Nat.{◌+◌, ◌*◌, ◌-◌, ◌≤◌}
use lib.ListN.{drop, replicate}
use Rattle.trace.specs.Bounds.{ADDRESSES}
use Rattle.packed.specs.Layout.{HEAD, FIRST}
use Rattle.packed.specs.FileRead.{begun_file, read_firsts}
use Rattle.packed.proofs.unpacking.firsts_in.Given as goal

abbrev pub invariant-loop-i : goal.invariant-loop-i
invariant-loop-i l =
    (l.i ≤ l.count) × (l.low ≤ ADDRESSES) × (l.trace ≡ begun_file l.trace.firsts)
    × (read_firsts (l.count - l.i) l.low l.trace.firsts (drop (HEAD + FIRST * l.i) l.bytes) ≡ read_firsts l.count 0 (replicate ADDRESSES 0) (drop HEAD l.bytes))
