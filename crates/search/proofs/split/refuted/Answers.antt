-- `search::split::refuted`: what is drawn ranks no more than what is held; where that has no ranking, neither has what is held.
use lib.ListN.{length}
use Rattle.search.proofs.Refutation.{follows-part, follows-more, refuted-circle, refuted-through}
use Rattle.search.specs.inner.Refutation.{Ranking}
use Rattle.search.proofs.split.refuted.Goals as goal

pub returns-then-circular : goal.returns-then-circular
returns-then-circular c = λ _.
    let a = c.args in
    let O = Ranking (length a.sources.now) a.writers.now a.sources.now a.placed.now in
    let drawn = follows-more O a.before.now (follows-more O a.before.now (follows-part O a.before.now _ c.leave.ensures) c.part.ensures) c.circular.ensures.grown in
    refuted-circle (length a.sources.now) a.writers.now a.sources.now a.placed.now a.before.now _ drawn (c.circular.ensures.unranked c.if-circular.true)

pub returns : goal.returns
returns c = λ t.
    let a = c.args in
    let O = Ranking (length a.sources.now) a.writers.now a.sources.now a.placed.now in
    let drawn = follows-more O a.before.now (follows-more O a.before.now (follows-part O a.before.now _ c.leave.ensures) c.part.ensures) c.circular.ensures.grown in
    refuted-through (length a.sources.now) a.writers.now a.sources.now a.placed.now a.before.now _ drawn (c.divided.ensures t)
