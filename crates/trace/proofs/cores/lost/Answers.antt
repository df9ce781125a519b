-- `trace::cores::lost` meets its contract. The invariant: no thread passed appears behind a gap, and `whole` says whether all of them appear.
-- Assumes nothing.
use mathlib.Core.Path.{refl, sym, ap₂, ◌∙◌}
use mathlib.Core.Bool.{◌&&◌}
use Rattle.laws.specs.Tests.{any, all}
use Rattle.laws.proofs.Loops.{any-more, any-stops, any-fewer}
use Rattle.trace.specs.Cores.{all_show, lost}
use Rattle.trace.proofs.Lost.{whole-more}
use Rattle.trace.proofs.cores.lost.Goals as goal

pub loop-i-init : goal.loop-i-init
unfolding any all_show all
loop-i-init c = (refl, refl)

pub returns-then-seen-whole : goal.returns-then-seen-whole
unfolding lost
returns-then-seen-whole c =
    let whole = c.loop-i.invariant.1 in
    let seen = c.shows-seen.ensures in
    let behind = c.if-seen-whole.true in
    sym (any-stops _ _ c.loop-i.i c.loop-i-test.true (cc))

pub loop-i-preserved : goal.loop-i-preserved
loop-i-preserved c =
    let whole = c.loop-i.invariant.1 in
    let seen = c.shows-seen.ensures in
    let none = c.if-seen-whole.false in
    (any-more _ c.loop-i.i c.loop-i.invariant.0 (cc), ap₂ ◌&&◌ whole seen ∙ whole-more c.args.t c.loop-i.i)

pub returns : goal.returns
unfolding lost
returns c = sym (any-fewer _ _ _ c.loop-i-test.false c.loop-i.invariant.0)
