use Prim.Native.Nat.{◌≤◌}
use Rattle.signature.specs.inner.WordsLaid.{digit_by}
use Rattle.signature.proofs.Putting.{Puts}
use Rattle.signature.proofs.unpacking.put_reads.Given as goal

abbrev pub invariant-loop-i : goal.invariant-loop-i
invariant-loop-i l = (l.i ≤ l.t.len) × Puts l.t (digit_by l.x l.words) l.out l.k l.i
