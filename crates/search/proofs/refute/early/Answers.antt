-- `search::refute::early`: the others passed, but the source, come before the source.
use mathlib.Core.Bool.{So}
use mathlib.Core.Logic.{inl, inr}
use mathlib.Core.Path.{◌≡◌, refl, ◌∙◌}
use native.Mathlib.Omega.{arith}
use lib.Dec.{eqb}
use lib.ListN.{length}
use Rattle.laws.proofs.Tests.{and-iff, so-not, so-eq}
use Rattle.rows.specs.Rows.{bit}
use Rattle.search.proofs.Candidates.{next-on, next-at}
use Rattle.search.proofs.Refutation.{grown-none, grown-then, grown-weaker, own-only}
use Rattle.search.specs.inner.Refutation.{Leads, Grown}
use Rattle.search.proofs.refute.early.Goals.{else-z-source, then-z-source}
use Rattle.search.proofs.refute.early.Goals as goal

pub loop-z-init : goal.loop-z-init
loop-z-init c = (next-at c.args.others.now 0 _ c.next-z.ensures, grown-none _ _, refl)

pub lead_all-requires : goal.lead_all-requires
lead_all-requires c = c.loop-z.invariant.1.long ∙ c.requires.1

pub overflow_add-z : goal.overflow_add-z
overflow_add-z c = omega arith

pub loop-z-smaller : goal.loop-z-smaller
loop-z-smaller c = omega (arith, next-on c.args.others.now c.loop-z.z _ c.next-z-in-loop-z.ensures (omega (arith, c.loop-z-test.true)))

pub loop-z-preserved : goal.loop-z-preserved
loop-z-preserved c = let l = c.loop-z in
    let a = c.args in
    let here : So (bit a.others.now 0 l.z) = elim l.invariant.0 [ inl t ↦ t | inr e ↦ absurd (omega (arith, c.loop-z-test.true)) ] in
    let on = next-at a.others.now _ _ c.next-z-in-loop-z.ensures in
    (elim c.if-z-source.branch [
      | then-z-source w ↦ let d = ((and-iff (so-not {b = eqb l.z a.source}) (so-not {b = c.test.result})).0 w.if-z-source.true).0 in
          let done : Grown (Leads l.z c.put.new.rows) l.led c.if-z-source.led = rw w.led-is w.lead_all.ensures in
          let long : length c.if-z-source.changed ≡ length l.changed = rw w.changed-is w.lead_all.auto.changed in
          (on, grown-then l.invariant.1 (grown-weaker (λ pos o. own-only a.source c.requires.0 _ c.put.ensures pos l.z (o l.z here (λ e. d (so-eq.1 e)))) done), long ∙ l.invariant.2)
      | else-z-source w ↦ let e : c.if-z-source.led ≡ l.led = w.led-is in
          let d : c.if-z-source.changed ≡ l.changed = w.changed-is in
          (on, rw e l.invariant.1, rw d l.invariant.2)
    ])

pub shape_of-led : goal.shape_of-led
shape_of-led c = c.loop-z.invariant.1.long

pub shape_of-changed : goal.shape_of-changed
shape_of-changed c = c.loop-z.invariant.2

pub returns : goal.returns
returns c = c.loop-z.invariant.1
