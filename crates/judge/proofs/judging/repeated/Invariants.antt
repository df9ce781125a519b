use Rattle.laws.proofs.LowestLoops.{NoneBelow}
use Rattle.judge.specs.Judged.{twice?}
use Rattle.judge.proofs.judging.repeated.Given as goal

abbrev pub invariant-loop-x : goal.invariant-loop-x
invariant-loop-x l = NoneBelow (twice? l.list) l.x
