-- `judge::judging::seen`: the value is what the latest visible writer of the places passed wrote.
use mathlib.Core.Path.{refl, sym, ap₂, ◌∙◌}
use mathlib.Core.Bool.{true, false}
use native.Mathlib.Omega.{arith}
use lib.Dec.{ltb}
use lib.ListN.{get_or}
use Rattle.laws.specs.Latest.{last_of}
use Rattle.laws.proofs.Latest.{last_on, last_off, last-all}
use Rattle.trace.specs.Meaning.{frame_of}
use Rattle.trace.specs.declared.Op.{Op}
use Rattle.rules.specs.Seen.{seen}
use Rattle.judge.specs.inner.VisibleBy.{visible_by}
use Rattle.judge.proofs.Positions.{visible-at, visible-by}
use Rattle.judge.proofs.judging.seen.Goals.{else-visible, then-visible}
use Rattle.judge.proofs.judging.seen.Goals as goal

pub loop-i-init : goal.loop-i-init
unfolding last_of frame_of
loop-i-init c = (omega arith, cc)

pub loop-i-preserved : goal.loop-i-preserved
unfolding frame_of
loop-i-preserved c =
    let l = c.loop-i in
    let a = c.args in
    let x = get_or a.list.now l.i 0 in
    let before = ltb l.i (get_or a.sites.now a.load 0) in
    let e = c.visible.ensures ∙ ap₂ (λ (r q : Op). visible_by a.t.len r x q a.load before) refl c.op_at-b.ensures ∙ visible-by a.t x a.load before in
    let at = visible-at a.t a.list.now a.sites.now c.requires.1 l.i a.load c.requires.0 in (
      omega arith,
      (elim c.if-visible.branch [ then-visible w ↦ last_on _ _ _ l.i (at true (sym e ∙ w.if-visible.true)) (cc) | else-visible w ↦ last_off _ _ _ l.i (at false (sym e ∙ w.if-visible.false)) (w.value-is ∙ l.invariant.1) ]),
    )

pub returns : goal.returns
unfolding seen
returns c = last-all _ _ _ c.loop-i.i _ c.loop-i.invariant.0 c.loop-i-test.false c.loop-i.invariant.1
