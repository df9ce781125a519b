use mathlib.Core.Path.{◌≡◌}
use Prim.Native.Nat.{◌+◌, ◌≤◌}
use lib.ListN.{length}
use Rattle.signature.specs.Reads.{loads}
use Rattle.signature.proofs.Passing.{loads_from}
use Rattle.signature.proofs.packing.loads_in.Given as goal

abbrev pub invariant-loop-i : goal.invariant-loop-i
invariant-loop-i l = (l.i ≤ l.t.len) × (l.count ≤ l.i) × (l.count + length (loads_from l.t l.i) ≡ length (loads l.t))
