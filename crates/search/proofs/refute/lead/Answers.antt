-- `search::refute::lead`: the numbers passed that are among the heads, or after one, took what is ahead.
use mathlib.Core.Bool.{So}
use mathlib.Core.Logic.{◌⊎◌, inl, inr}
use mathlib.Core.Path.{◌≡◌, refl, sym, ◌∙◌}
use native.Mathlib.Omega.{arith}
use lib.ListN.{length}
use Rattle.laws.proofs.Tests.{or-iff, same-iff}
use Rattle.rows.specs.Rows.{bit}
use Rattle.rows.specs.Within.{Meets}
use Rattle.search.proofs.Candidates.{next-on}
use Rattle.search.proofs.Refutation.{grown-none, lead-row}
use Rattle.search.specs.inner.Refutation.{Below, Grown}
use Rattle.search.proofs.refute.lead.Goals.{else-test-meets, then-test-meets}
use Rattle.search.proofs.refute.lead.Goals as goal

pub loop-y-init : goal.loop-y-init
loop-y-init c = (grown-none _ _, refl)

pub take-requires : goal.take-requires
take-requires c = (omega (arith, c.loop-y-test.true), c.loop-y.invariant.0.long ∙ c.requires)

pub overflow_add-y : goal.overflow_add-y
overflow_add-y c = omega arith

pub loop-y-smaller : goal.loop-y-smaller
loop-y-smaller c = omega (arith, next-on c.args.left.now c.loop-y.y _ c.next-y-in-loop-y.ensures (omega (arith, c.loop-y-test.true)))

pub loop-y-preserved : goal.loop-y-preserved
loop-y-preserved c = let a = c.args in
    (elim c.if-test-meets.branch [
      | then-test-meets w ↦ let up : So (bit a.heads.now 0 c.loop-y.y) ⊎ Meets c.loop-y.led c.loop-y.y a.heads.now 0 =
          elim ((or-iff (same-iff {a = c.test.result}) (same-iff {a = c.meets.result})).0 w.if-test-meets.true) [ inl t ↦ inl (sym c.test.ensures ∙ t) | inr t ↦ inr (c.meets.ensures.0 t) ] in
          let done : Grown (Below a.ahead.now c.loop-y.y) c.loop-y.led c.if-test-meets.led = rw w.led-is w.take.ensures in
          let long : length c.if-test-meets.changed ≡ length c.loop-y.changed = rw w.changed-is w.take.auto.changed in
          (lead-row a.ahead.now a.heads.now a.led.now c.loop-y.led _ c.loop-y.invariant.0 c.loop-y.y up done, long ∙ c.loop-y.invariant.1)
      | else-test-meets w ↦ let e : c.if-test-meets.led ≡ c.loop-y.led = w.led-is in
          let d : c.if-test-meets.changed ≡ c.loop-y.changed = w.changed-is in
          (rw e c.loop-y.invariant.0, rw d c.loop-y.invariant.1)
    ])

pub shape_of-led : goal.shape_of-led
shape_of-led c = c.loop-y.invariant.0.long

pub shape_of-changed : goal.shape_of-changed
shape_of-changed c = c.loop-y.invariant.1

pub returns : goal.returns
returns c = c.loop-y.invariant.0
