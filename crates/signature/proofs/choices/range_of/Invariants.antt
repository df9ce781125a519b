use mathlib.Core.Path.{◌≡◌}
use Prim.Native.Nat.{suc, ◌+◌, ◌≤◌}
use lib.ListN.{length}
use Rattle.signature.specs.Reads.{range_of}
use Rattle.signature.proofs.Passing.{comes}
use Rattle.signature.proofs.choices.range_of.Given as goal

abbrev pub invariant-loop-i : goal.invariant-loop-i
invariant-loop-i l = (l.i ≤ l.t.len) × (l.r ≤ suc l.i) × (l.r + length (comes l.t l.load l.i) ≡ range_of l.t l.load)
