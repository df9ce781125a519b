use Rattle.laws.proofs.LowestLoops.{NoneBelow}
use Rattle.trace.specs.Meaning.{frame_of}
use Rattle.judge.specs.Judged.{wrong?}
use Rattle.judge.proofs.judging.wrong_value.Given as goal

abbrev pub invariant-loop-load : goal.invariant-loop-load
invariant-loop-load l = NoneBelow (wrong? (frame_of l.t) l.list) l.load
