use mathlib.Core.Path.{◌≡◌}
use Prim.Native.Nat.{◌+◌, ◌≤◌}
use lib.ListN.{length, take}
use Rattle.text.specs.Room.{put_at}
use Rattle.trace.specs.Bounds.{ADDRESSES}
use Rattle.packed.specs.Layout.{HEAD, firsts_of}
use Rattle.packed.proofs.packing.put_firsts.Given as goal

abbrev pub invariant-loop-a : goal.invariant-loop-a
invariant-loop-a l = (l.a ≤ ADDRESSES) × (l.at ≡ HEAD + length (firsts_of 0 (take l.a l.t.firsts))) × (l.out ≡ put_at (firsts_of 0 (take l.a l.t.firsts)) l.initial.out HEAD)
