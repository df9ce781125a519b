-- `judge::judging::bad_place`: at the places passed stand operations.
use mathlib.Core.Path.{◌≡◌}
use mathlib.Core.Bool.{true, false}
use Rattle.laws.proofs.LowestLoops.{more-below}
use Rattle.trace.specs.Meaning.{frame_of}
use Rattle.judge.specs.Judged.{bad?}
use Rattle.pairs.proofs.Found.{at-lowest, nothing-lowest}
use Rattle.judge.proofs.judging.bad_place.Goals as goal

pub returns-then-not-operation : goal.returns-then-not-operation
unfolding bad?
returns-then-not-operation c =
    let l = c.loop-i in
    let a = c.args in
    let e : bad? (frame_of a.t) a.list.now l.i ≡ true = cc in
    at-lowest _ _ l.i l.invariant c.loop-i-test.true e

pub loop-i-preserved : goal.loop-i-preserved
unfolding bad?
loop-i-preserved c =
    let l = c.loop-i in
    let a = c.args in
    let e : bad? (frame_of a.t) a.list.now l.i ≡ false = cc in
    more-below _ l.i l.invariant e

pub returns : goal.returns
returns c = let l = c.loop-i in nothing-lowest _ _ l.i l.invariant c.loop-i-test.false
