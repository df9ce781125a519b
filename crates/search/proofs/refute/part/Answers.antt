-- `search::refute::part`: what the loads passed give is drawn.
use mathlib.Core.Bool.{So}
use mathlib.Core.Path.{◌≡◌, refl, sym, ◌∙◌}
use native.Mathlib.Omega.{arith}
use lib.ListN.{length, get_or}
use Rattle.rows.specs.Rows.{bit}
use Rattle.search.proofs.Candidates.{next-on}
use Rattle.search.proofs.Refutation.{grown-none, grown-then, grown-weaker, part-one}
use Rattle.search.specs.inner.Refutation.{Leads, Grown}
use Rattle.search.proofs.refute.part.Goals.{else-test, then-test}
use Rattle.search.proofs.refute.part.Goals as goal

pub loop-load-init : goal.loop-load-init
loop-load-init c = (grown-none _ _, refl)

pub lead_all-requires : goal.lead_all-requires
lead_all-requires c = c.loop-load.invariant.0.long ∙ c.requires.1

pub overflow_add-load : goal.overflow_add-load
overflow_add-load c = omega (arith, c.loop-load-test.true, c.requires.0)

pub loop-load-smaller : goal.loop-load-smaller
loop-load-smaller c = omega (arith, next-on c.args.left.now c.loop-load.load _ c.next-load-in-loop-load.ensures (omega (arith, c.loop-load-test.true, c.requires.0)))

pub loop-load-preserved : goal.loop-load-preserved
loop-load-preserved c = let l = c.loop-load in
    let a = c.args in
    (elim c.if-test.branch [
      | then-test w ↦ let due : So (bit a.placed.now 0 (get_or a.sources.now l.load 0)) = sym c.test.ensures ∙ w.if-test.true in
          let done : Grown (Leads l.load w.rest-others.result) l.led c.if-test.led = rw w.led-is w.lead_all.ensures in
          let long : length c.if-test.changed ≡ length l.changed = rw w.changed-is w.lead_all.auto.changed in
          (grown-then l.invariant.0 (grown-weaker (part-one _ a.writers.now a.sources.now a.placed.now _ l.load c.loop-load-test.true due w.rest-others.ensures) done), long ∙ l.invariant.1)
      | else-test w ↦ let e : c.if-test.led ≡ l.led = w.led-is in
          let d : c.if-test.changed ≡ l.changed = w.changed-is in
          (rw e l.invariant.0, rw d l.invariant.1)
    ])

pub shape_of-led : goal.shape_of-led
shape_of-led c = c.loop-load.invariant.0.long

pub shape_of-changed : goal.shape_of-changed
shape_of-changed c = c.loop-load.invariant.1

pub returns : goal.returns
returns c = c.loop-load.invariant.0
