-- `session::calls::draw`: the pairs from place i on are still to be drawn.
use mathlib.Core.Path.{◌≡◌, refl, sym, ap, ◌∙◌}
use Prim.Native.Nat.{◌+◌}
use lib.ListN.{length, drop}
use Rattle.rows.proofs.Pair.{put-long}
use Rattle.session.specs.Bounds.{PAIRS}
use Rattle.session.specs.Stack.{pair_at, standing}
use Rattle.session.specs.inner.StackSteps.{drawn}
use Rattle.session.proofs.Pairs.{drawn-more, drawn-all}
use Rattle.session.proofs.calls.draw.Goals.{Start}
use Rattle.session.proofs.calls.draw.Goals as goal

full : (c : Start) → length c.args.k.pairs ≡ PAIRS
full c = c.well_formed.0.1.1.0.1.0.1

pub loop-i-init : goal.loop-i-init
loop-i-init c = (refl, refl)

pub loop-i-preserved : goal.loop-i-preserved
loop-i-preserved c =
    let k = c.args.k in
    let p = pair_at k c.loop-i.i in
    let e = c.put.ensures in (
      ap length e ∙ put-long c.loop-i.rows p.first p.second ∙ c.loop-i.invariant.0,
      ap (drawn (drop (c.loop-i.i + 1) (standing k))) e ∙ drawn-more k (full (goal.at.loop-i-preserved c).Start) c.requires c.loop-i.rows c.loop-i.i c.loop-i-test.true ∙ c.loop-i.invariant.1,
    )

pub shape_of-rows : goal.shape_of-rows
shape_of-rows c = c.loop-i.invariant.0

pub returns : goal.returns
returns c =
    sym (drawn-all c.args.k (full (goal.at.returns c).Start) c.requires c.loop-i.rows c.loop-i.i c.loop-i-test.false) ∙ c.loop-i.invariant.1
