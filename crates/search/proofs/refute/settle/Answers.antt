-- `search::refute::settle`: what the loads passed give is drawn.
use mathlib.Core.Path.{◌≡◌, refl, ◌∙◌}
use Prim.Native.Nat.{ℕ, ◌<◌}
use native.Mathlib.Omega.{arith}
use lib.ListN.{length, get_or}
use Rattle.laws.proofs.Tests.{and-iff, so-lt, so-not}
use Rattle.search.proofs.Candidates.{next-on}
use Rattle.search.proofs.Refutation.{grown-none, grown-then, grown-weaker, settle-one}
use Rattle.search.specs.inner.Refutation.{Settling, Grown}
use Rattle.trace.specs.Bounds.{RECORDS}
use Rattle.search.proofs.refute.settle.Goals.{else-source-test, then-source-test}
use Rattle.search.proofs.refute.settle.Goals as goal

pub loop-load-init : goal.loop-load-init
loop-load-init c = (grown-none _ _, refl)

pub settle_for-requires : goal.settle_for-requires
settle_for-requires c = (((and-iff (so-lt {m = get_or c.args.sources.now c.loop-load.load 0} {n = RECORDS}) (so-not {b = c.test.result})).0 c.if-source-test.true).0, c.loop-load.invariant.0.long ∙ c.requires.1)

pub overflow_add-load : goal.overflow_add-load
overflow_add-load c = omega (arith, c.loop-load-test.true, c.requires.0)

pub loop-load-smaller : goal.loop-load-smaller
loop-load-smaller c = omega (arith, next-on c.args.left.now c.loop-load.load _ c.next-load-in-loop-load.ensures (omega (arith, c.loop-load-test.true, c.requires.0)))

pub loop-load-preserved : goal.loop-load-preserved
loop-load-preserved c = let l = c.loop-load in
    let a = c.args in
    let S : ℕ = get_or a.sources.now l.load 0 in
    (elim c.if-source-test.branch [
      | then-source-test w ↦ let s : S < RECORDS = ((and-iff (so-lt {m = S} {n = RECORDS}) (so-not {b = c.test.result})).0 w.if-source-test.true).0 in
          let done : Grown (Settling w.rest-others.result S l.load) l.led c.if-source-test.led = rw w.led-is w.settle_for.ensures in
          let long : length c.if-source-test.changed ≡ length l.changed = rw w.changed-is w.settle_for.auto.changed in
          (grown-then l.invariant.0 (grown-weaker (settle-one _ a.writers.now a.sources.now a.placed.now _ l.load c.loop-load-test.true s w.rest-others.ensures) done), long ∙ l.invariant.1)
      | else-source-test w ↦ let e : c.if-source-test.led ≡ l.led = w.led-is in
          let d : c.if-source-test.changed ≡ l.changed = w.changed-is in
          (rw e l.invariant.0, rw d l.invariant.1)
    ])

pub shape_of-led : goal.shape_of-led
shape_of-led c = c.loop-load.invariant.0.long

pub shape_of-changed : goal.shape_of-changed
shape_of-changed c = c.loop-load.invariant.1

pub returns : goal.returns
returns c = c.loop-load.invariant.0
