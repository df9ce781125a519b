-- `trace::form::follows_marks`: where its mark is not set, the value was not written before.
use mathlib.Core.Path.{◌≡◌, sym, ap, ap₂, ◌∙◌}
use mathlib.Core.Bool.{So, false, not}
use borrow.Author.Tests.{not-true, not-false}
use lib.Dec.{eqb}
use Rattle.trace.specs.Op.{address, written, writes}
use Rattle.trace.specs.Trace.{first}
use Rattle.trace.specs.WellFormed.{bounded, fresh, follows}
use Rattle.trace.specs.inner.Marks.{has_mark}
use Rattle.trace.proofs.WellFormed.{bounded-iff}
use Rattle.trace.proofs.Marks.{follows-unmarked}
use Rattle.trace.proofs.form.follows_marks.Goals.{Else-not-bounded}
use Rattle.trace.proofs.form.follows_marks.Goals as goal

-- the operation keeps its bounds past the first test
keeps : (c : Else-not-bounded) → So (bounded c.args.op)
keeps c = sym c.bounded.ensures ∙ not-false _ c.if-not-bounded.false-raw

pub returns-then-not-bounded : goal.returns-then-not-bounded
unfolding follows
returns-then-not-bounded c =
    let breaks : bounded c.args.op ≡ false = sym c.bounded.ensures ∙ not-true _ c.if-not-bounded.true-raw in
    simp breaks

pub marked-requires : goal.marked-requires
marked-requires c = rw c.address-addr.ensures ((bounded-iff _).0 (keeps (goal.at.marked-requires c).Else-not-bounded)).address_below

pub returns-then-marked : goal.returns-then-marked
unfolding follows
returns-then-marked c = simp (keeps (goal.at.returns-then-marked c).Else-not-bounded) c.fresh.ensures

pub returns-then-writes : goal.returns-then-writes
returns-then-writes c =
    let a = c.args in
    let free : has_mark a.marks.now (address a.op) (written a.op) ≡ false =
    sym (ap₂ (has_mark a.marks.now) c.address-addr.ensures c.written-value.ensures) ∙ sym c.marked.ensures ∙ c.if-marked.false in
    ap not (ap₂ eqb c.written-value.ensures (c.first.ensures ∙ ap (first a.t) c.address-addr.ensures))
    ∙ sym (follows-unmarked a.t a.n a.marks.now c.requires a.op (keeps (goal.at.returns-then-writes c).Else-not-bounded) (sym c.writes.ensures ∙ c.if-writes.true) free)

pub returns : goal.returns
unfolding follows fresh
returns c =
    let does : writes c.args.op ≡ false = sym c.writes.ensures ∙ c.if-writes.false in
    simp (keeps (goal.at.returns c).Else-not-bounded, does)
