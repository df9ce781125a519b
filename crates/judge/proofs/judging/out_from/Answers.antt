-- `judge::judging::out_from`: x makes no pair out of turn with the records passed, and it is known whether a fence of its thread was passed.
use mathlib.Core.Path.{refl, ◌∙◌}
use Rattle.laws.proofs.LowestLoops.{more-below}
use Rattle.pairs.proofs.Fences.{fenced-more}
use Rattle.pairs.proofs.Found.{at-lowest, nothing-lowest}
use Rattle.judge.proofs.Walked.{none-earlier, not-fenced, kept_at, out-here, out-idle, out-right}
use Rattle.judge.proofs.judging.out_from.Goals.{else-sites-y, then-sites-y+else-kept_pair}
use Rattle.judge.proofs.judging.out_from.Goals as goal

pub loop-y-init : goal.loop-y-init
loop-y-init c = let a = c.args in (not-fenced a.t a.x, none-earlier a.model a.t a.sites.now a.x)

pub returns-then-kept_pair : goal.returns-then-kept_pair
returns-then-kept_pair c =
    let l = c.loop-y in
    let a = c.args in
    let k = kept_at a.model a.t a.x l.y c.op_at-a.ensures refl l.invariant.0 c.kept_pair.ensures ∙ c.if-kept_pair.true in
    at-lowest _ _ l.y l.invariant.1 c.loop-y-test.true (out-here _ a.sites.now a.x l.y k c.if-sites-y.true)

pub loop-y-preserved : goal.loop-y-preserved
loop-y-preserved c =
    let l = c.loop-y in
    let a = c.args in (
      cc (fenced-more a.t a.x l.y),
      more-below _ l.y l.invariant.1
          ((elim c.if-sites-y.branch [ then-sites-y+else-kept_pair w ↦ out-idle _ a.sites.now a.x l.y (kept_at a.model a.t a.x l.y c.op_at-a.ensures refl l.invariant.0 w.kept_pair.ensures ∙ w.if-kept_pair.false) | else-sites-y w ↦ out-right _ a.sites.now a.x l.y w.if-sites-y.false ])),
    )

pub returns : goal.returns
returns c = let l = c.loop-y in nothing-lowest _ _ l.y l.invariant.1 c.loop-y-test.false
