use Rattle.laws.proofs.LowestLoops.{NoneBelow}
use Rattle.trace.specs.Meaning.{frame_of}
use Rattle.judge.specs.Judged.{bad?}
use Rattle.judge.proofs.judging.bad_place.Given as goal

abbrev pub invariant-loop-i : goal.invariant-loop-i
invariant-loop-i l = NoneBelow (bad? (frame_of l.t) l.list) l.i
