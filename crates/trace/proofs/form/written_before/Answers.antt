-- `trace::form::written_before` meets its contract. The invariant: none of the records passed writes the value there.
-- Assumes nothing.
use mathlib.Core.Path.{sym, ap, ◌∙◌}
use native.Mathlib.Omega.{arith}
use borrow.Author.Rules.{rules}
use Rattle.laws.specs.Tests.{any}
use Rattle.laws.proofs.Loops.{any-more, any-stops, any-past}
use Rattle.trace.specs.Op.{writes_to}
use Rattle.trace.specs.WellFormed.{written_before}
use Rattle.trace.specs.declared.Op.{Op}
use Rattle.trace.proofs.Places.{at-past}
use Rattle.trace.proofs.form.written_before.Goals as goal

pub loop-i-init : goal.loop-i-init
unfolding written_before any
loop-i-init c = search rules

pub returns-then-i-ge-RECORDS : goal.returns-then-i-ge-RECORDS
unfolding written_before
returns-then-i-ge-RECORDS c =
    let t = c.args.t in
    let full = c.well_formed.0.1.1.0.1.0.1 in
    sym (any-past _ c.loop-i.i _ c.loop-i.invariant (λ k h. ap (λ (o : Op). writes_to o c.args.addr c.args.value) (at-past t full k (omega arith))))

pub returns-then-writes_to : goal.returns-then-writes_to
unfolding written_before
returns-then-writes_to c = sym (any-stops _ _ _ c.loop-i-test.true (sym c.writes_to.ensures ∙ c.if-writes_to.true))

pub loop-i-preserved : goal.loop-i-preserved
unfolding written_before
loop-i-preserved c = any-more _ _ c.loop-i.invariant (sym c.writes_to.ensures ∙ c.if-writes_to.false)
