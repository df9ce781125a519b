-- `trace::form::fault_of` meets its contract: the tests in the order of their numbers. Assumes nothing.
use mathlib.Core.Path.{◌≡◌, sym, ap, ap₂, ◌∙◌}
use mathlib.Core.Bool.{Bool, true, ◌&&◌}
use lib.Dec.{eqb}
use borrow.Author.Tests.{not-true, not-false}
use Rattle.trace.specs.Op.{writes, written, address}
use Rattle.trace.specs.Trace.{first}
use Rattle.trace.specs.WellFormed.{bounded, written_before}
use Rattle.trace.specs.declared.Op.{Op}
use Rattle.trace.specs.declared.Trace.{Trace}
use Rattle.trace.proofs.Faults.{fault_past, fault-first, fault-many, fault-twice, fault-new, fault-plain}
use Rattle.trace.proofs.form.fault_of.Goals.{After-first-start, After-written_before, Start}
use Rattle.trace.proofs.form.fault_of.Goals as goal

pub returns-then-not-bounded : goal.returns-then-not-bounded
returns-then-not-bounded c = let a = c.args in fault_past a.t a.op (sym c.bounded.ensures ∙ not-true _ c.if-not-bounded.true-raw)

-- the test for the first value, as the definition has it
writes-first : Trace → Op → Bool
writes-first t o = writes o && eqb (written o) (first t (address o))

keeps : (c : After-first-start) → bounded c.args.op ≡ true
keeps c = sym c.bounded.ensures ∙ not-false _ c.if-not-bounded.false-raw

does : (c : After-first-start) → c.writes-writes.result ≡ writes c.args.op
does c = c.writes-writes.ensures

-- the code's test is that one
same_test : (c : After-first-start) → (c.writes-writes.result && eqb c.written-written.result c.first-start.result) ≡ writes-first c.args.t c.args.op
unfolding writes-first
same_test c =
    ap₂ ◌&&◌ c.writes-writes.ensures
    (ap₂ eqb c.written-written.ensures (c.first-start.ensures ∙ ap (first c.args.t) c.address-addr.ensures))

-- what was written before, as the definition has it
same-before : (c : After-written_before) → c.written_before.result ≡ written_before c.args.t c.args.t.len (address c.args.op) (written c.args.op)
same-before c =
    let t = c.args.t in
    c.written_before.ensures ∙ ap₂ (written_before t t.len) c.address-addr.ensures c.written-written.ensures

pub returns-then-writes-written : goal.returns-then-writes-written
unfolding writes-first
returns-then-writes-written c =
    let a = c.args in
    fault-first a.t a.op (keeps (goal.at.returns-then-writes-written c).After-first-start) (sym (same_test (goal.at.returns-then-writes-written c).After-first-start) ∙ c.if-writes-written.true)

pub returns-then-len-ge-RECORDS : goal.returns-then-len-ge-RECORDS
unfolding writes-first
returns-then-len-ge-RECORDS c =
    let a = c.args in
    fault-many a.t a.op (keeps (goal.at.returns-then-len-ge-RECORDS c).After-first-start) (sym (same_test (goal.at.returns-then-len-ge-RECORDS c).After-first-start) ∙ c.if-writes-written.false) c.if-len-ge-RECORDS.true

pub returns-then-written_before : goal.returns-then-written_before
unfolding writes-first
returns-then-written_before c =
    let a = c.args in
    fault-twice a.t a.op (keeps (goal.at.returns-then-written_before c).After-first-start) (sym (same_test (goal.at.returns-then-written_before c).After-first-start) ∙ c.if-writes-written.false) c.if-len-ge-RECORDS.false (sym (does (goal.at.returns-then-written_before c).After-first-start) ∙ c.if-writes.true) (sym (same-before (goal.at.returns-then-written_before c).After-written_before) ∙ c.if-written_before.true)

pub returns-else-written_before : goal.returns-else-written_before
unfolding writes-first
returns-else-written_before c =
    let a = c.args in
    fault-new a.t a.op (keeps (goal.at.returns-else-written_before c).After-first-start) (sym (same_test (goal.at.returns-else-written_before c).After-first-start) ∙ c.if-writes-written.false) c.if-len-ge-RECORDS.false (sym (same-before (goal.at.returns-else-written_before c).After-written_before) ∙ c.if-written_before.false)

pub returns-else-writes : goal.returns-else-writes
unfolding writes-first
returns-else-writes c =
    let a = c.args in
    fault-plain a.t a.op (keeps (goal.at.returns-else-writes c).After-first-start) (sym (same_test (goal.at.returns-else-writes c).After-first-start) ∙ c.if-writes-written.false) c.if-len-ge-RECORDS.false (sym (does (goal.at.returns-else-writes c).After-first-start) ∙ c.if-writes.false)
