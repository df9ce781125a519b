-- `judge::judging::out_of_turn`: none of the records passed begins a pair out of turn.
use Rattle.laws.proofs.LowestLoops.{more-below}
use Rattle.judge.specs.inner.Positions.{early_at}
use Rattle.pairs.proofs.Found.{at-lowest, nothing-lowest, some-lowest, none-lowest, lowest-any, lowest-not-any}
use Rattle.judge.proofs.judging.out_of_turn.Goals as goal

pub returns-in-Some : goal.returns-in-Some
unfolding early_at
returns-in-Some c =
    let l = c.loop-x in
    at-lowest _ _ l.x l.invariant c.loop-x-test.true
    (lowest-any _ _ _ (some-lowest _ _ c.out_from.ensures c.in-Some.is))

pub loop-x-preserved : goal.loop-x-preserved
unfolding early_at
loop-x-preserved c =
    let l = c.loop-x in
    more-below _ l.x l.invariant (lowest-not-any _ _ (none-lowest _ _ c.out_from.ensures c.in_default.is))

pub returns : goal.returns
returns c = let l = c.loop-x in nothing-lowest _ _ l.x l.invariant c.loop-x-test.false
