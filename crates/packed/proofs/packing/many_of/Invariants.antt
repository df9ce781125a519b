use mathlib.Core.Path.{◌≡◌}
use Prim.Native.Nat.{◌≤◌}
use lib.ListN.{take}
use Rattle.trace.specs.Bounds.{ADDRESSES}
use Rattle.packed.specs.Layout.{many}
use Rattle.packed.proofs.packing.many_of.Given as goal

abbrev pub invariant-loop-a : goal.invariant-loop-a
invariant-loop-a l = (l.a ≤ ADDRESSES) × (l.n ≤ l.a) × (l.n ≡ many (take l.a l.t.firsts))
