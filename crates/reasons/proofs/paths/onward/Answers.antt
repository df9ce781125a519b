-- `paths::onward`: found is the highest step below z that leads on.
use mathlib.Core.Path.{sym, ap₂, ◌∙◌}
use mathlib.Core.Bool.{◌&&◌}
use native.Mathlib.Omega.{arith}
use Rattle.laws.specs.Latest.{last_of}
use Rattle.laws.proofs.Latest.{last_on, last_off, last-all}
use Rattle.trace.specs.Bounds.{RECORDS}
use Rattle.reasons.specs.Ways.{step_of}
use borrow.Author.Rules.{rules}
use Rattle.reasons.proofs.paths.onward.Goals.{else-test, then-test}
use Rattle.reasons.proofs.paths.onward.Goals as goal

pub loop-z-init : goal.loop-z-init
unfolding last_of
loop-z-init c = search rules

pub loop-z-preserved : goal.loop-z-preserved
loop-z-preserved c =
    (elim c.if-test.branch [ then-test w ↦ (omega arith, last_on _ (λ z. z) RECORDS c.loop-z.z (sym (ap₂ ◌&&◌ c.test.ensures c.test-in-loop-z.ensures) ∙ w.if-test.true) w.found-is, omega (arith, w.found-is)) | else-test w ↦ (omega arith, last_off _ (λ z. z) RECORDS c.loop-z.z (sym (ap₂ ◌&&◌ c.test.ensures c.test-in-loop-z.ensures) ∙ w.if-test.false) (w.found-is ∙ c.loop-z.invariant.1), omega (arith, w.found-is, c.loop-z.invariant.2)) ])

pub returns : goal.returns
unfolding step_of
returns c =
    (last-all _ (λ z. z) RECORDS c.loop-z.z RECORDS c.loop-z.invariant.0 (omega arith) c.loop-z.invariant.1, c.loop-z.invariant.2)
