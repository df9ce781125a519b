use mathlib.Core.Path.{◌≡◌}
use Rattle.laws.proofs.LowestLoops.{NoneBelow}
use Rattle.pairs.specs.Kept.{kept_of, fenced}
use Rattle.judge.specs.inner.Positions.{out_at}
use Rattle.judge.proofs.judging.out_from.Given as goal

abbrev pub invariant-loop-y : goal.invariant-loop-y
invariant-loop-y l = (l.passed ≡ fenced l.t l.x l.y) × NoneBelow (out_at (kept_of l.model l.t) l.sites l.x) l.y
