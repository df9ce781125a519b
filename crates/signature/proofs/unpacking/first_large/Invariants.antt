use Rattle.laws.proofs.LowestLoops.{NoneBelow}
use Rattle.signature.specs.inner.LoadLists.{over}
use Rattle.signature.proofs.unpacking.first_large.Given as goal

abbrev pub invariant-loop-k : goal.invariant-loop-k
invariant-loop-k l = NoneBelow (over l.largest.of l.largest.count l.words) l.k
