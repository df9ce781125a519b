use Rattle.laws.proofs.LowestLoops.{NoneBelow}
use Rattle.pairs.specs.Kept.{kept_of}
use Rattle.judge.specs.inner.Positions.{early_at}
use Rattle.judge.proofs.judging.out_of_turn.Given as goal

abbrev pub invariant-loop-x : goal.invariant-loop-x
invariant-loop-x l = NoneBelow (early_at (kept_of l.model l.t) l.n l.sites) l.x
