-- `judge::judging::repeated`: none of the records passed stands in the list more than once.
use mathlib.Core.Path.{sym, ap, ◌∙◌}
use borrow.Author.Tests.{lt-ltb, le-ltb}
use lib.Dec.{ltb}
use Rattle.laws.proofs.LowestLoops.{more-below}
use Rattle.judge.specs.Judged.{twice?}
use Rattle.pairs.proofs.Found.{at-lowest, nothing-lowest}
use Rattle.judge.proofs.judging.repeated.Goals as goal

pub returns-then-times-gt1 : goal.returns-then-times-gt1
unfolding twice?
returns-then-times-gt1 c =
    let l = c.loop-x in
    at-lowest _ _ l.x l.invariant c.loop-x-test.true (sym (ap (ltb 1) c.times.ensures) ∙ lt-ltb _ _ c.if-times-gt1.true)

pub loop-x-preserved : goal.loop-x-preserved
unfolding twice?
loop-x-preserved c =
    let l = c.loop-x in
    more-below _ l.x l.invariant (sym (ap (ltb 1) c.times.ensures) ∙ le-ltb _ _ c.if-times-gt1.false)

pub returns : goal.returns
returns c = let l = c.loop-x in nothing-lowest _ _ l.x l.invariant c.loop-x-test.false
