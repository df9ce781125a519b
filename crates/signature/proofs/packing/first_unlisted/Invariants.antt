use Rattle.signature.specs.Reads.{unlisted}
use Rattle.laws.proofs.LowestLoops.{NoneBelow}
use Rattle.signature.specs.SignatureAnswers.{read_in}
use Rattle.signature.proofs.packing.first_unlisted.Given as goal

abbrev pub invariant-loop-i : goal.invariant-loop-i
invariant-loop-i l = NoneBelow (unlisted l.t (read_in l.t)) l.i
