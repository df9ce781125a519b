-- `machine::replaying::swept`: the records passed ran where they were asked for.
use mathlib.Core.Path.{refl, ap, ◌∙◌}
use native.Mathlib.Omega.{arith}
use Rattle.machine.specs.Replay.{swept}
use Rattle.machine.proofs.ByCases.{swept-more, swept_same}
use Rattle.machine.proofs.replaying.swept.Goals.{else-after-k, then-after-k}
use Rattle.machine.proofs.replaying.swept.Goals as goal

pub loop-k-init : goal.loop-k-init
unfolding swept
loop-k-init c = (omega arith, refl)

pub loop-k-preserved : goal.loop-k-preserved
loop-k-preserved c =
    let l = c.loop-k in (
      omega arith,
      (elim c.if-after-k.branch [ then-after-k w ↦ w.after-is ∙ w.put-after.ensures ∙ swept-more _ _ _ _ l.k _ _ l.invariant.1 c.thread-own.ensures w.if-after-k.true | else-after-k w ↦ w.after-is ∙ swept_same _ _ _ _ l.k _ _ l.invariant.1 c.thread-own.ensures w.if-after-k.false ]),
    )

pub returns : goal.returns
returns c =
    let l = c.loop-k in
    l.invariant.1 ∙ ap (swept _ _ _ _) (omega arith)
