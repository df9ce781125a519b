-- `counting::walk::last_waiting`: the last of those passed that waits.
use mathlib.Core.Path.{refl, sym, ap₂, ◌∙◌}
use mathlib.Core.Bool.{not, ◌&&◌}
use native.Mathlib.Omega.{arith}
use Rattle.laws.proofs.Latest.{last_none, last_on, last_off, last-all}
use Rattle.counting.specs.inner.NextTests.{waiting_own, last_waiting}
use Rattle.counting.proofs.walk.last_waiting.Goals.{else-test, then-test}
use Rattle.counting.proofs.walk.last_waiting.Goals as goal

pub loop-s-init : goal.loop-s-init
loop-s-init c = (omega arith, last_none _ _ _ refl)

pub loop-s-preserved : goal.loop-s-preserved
unfolding waiting_own
loop-s-preserved c =
    let l = c.loop-s in
    let e = ap₂ (λ a b. a && not b) (sym c.test.ensures) (sym c.test-in-loop-s.ensures) in (
      omega arith,
      (elim c.if-test.branch [ then-test w ↦ last_on _ _ _ l.s (e ∙ w.if-test.true) (cc) | else-test w ↦ last_off _ _ _ l.s (e ∙ w.if-test.false) (w.last-is ∙ l.invariant.1) ]),
    )

pub returns : goal.returns
unfolding last_waiting
returns c = last-all _ _ _ c.loop-s.s _ c.loop-s.invariant.0 c.loop-s-test.false c.loop-s.invariant.1
