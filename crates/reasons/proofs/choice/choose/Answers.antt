-- `choice::choose`: the best of the pairs of the records below x.
use native.Mathlib.Omega.{arith}
use Rattle.trace.specs.Meaning.{frame_of}
use Rattle.pairs.specs.Kept.{kept_of}
use Rattle.reasons.specs.inner.Choice.{rank_of}
use Rattle.reasons.proofs.Ranks.{rank-small, best-start, choose-at}
use Rattle.reasons.proofs.choice.choose.Goals as goal

pub loop-x-init : goal.loop-x-init
loop-x-init c =
    let a = c.args in
    (omega arith, omega arith, λ E k. best-start a.t.len (rank_of (frame_of a.t) (kept_of a.model a.t) E) (rank-small (frame_of a.t) (kept_of a.model a.t) E))

pub choose_from-best-requires : goal.choose_from-best-requires
choose_from-best-requires c =
    (c.requires.0, c.requires.1, omega arith, c.loop-x.invariant.1)

pub loop-x-preserved : goal.loop-x-preserved
loop-x-preserved c =
    let u = c.choose_from-best in
    (omega arith, u.ensures.1, λ E k. u.ensures.0 E k (c.loop-x.invariant.2 E k))

pub returns : goal.returns
returns c = λ E k.
    let a = c.args in
    choose-at a.t a.model E c.loop-x.x c.loop-x.best (omega (arith, c.loop-x.invariant.0)) (c.loop-x.invariant.2 E k)
