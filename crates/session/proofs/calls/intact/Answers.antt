-- `session::calls::intact`: each part of the test in turn. That the rows have all their words is told by owning them.
use mathlib.Core.Path.{◌≡◌, sym, ap, ◌∙◌}
use mathlib.Core.Bool.{So, false≢true}
use lib.ListN.{length}
use borrow.Author.Tests.{not-true, not-false}
use Rattle.laws.proofs.Tests.{test-one}
use Rattle.laws.proofs.Alike.{beq-iff}
use Rattle.rows.specs.Bounds.{CELLS}
use Rattle.session.specs.Stack.{Stands}
use Rattle.session.specs.Opening.{is_done, openable}
use Rattle.session.specs.Session.{Intact}
use Rattle.session.proofs.Pairs.{stands-iff}
use Rattle.session.proofs.Sessions.{intact-parts, intact-iff, intact-closed, intact-unstacked, intact-told}
use Rattle.session.proofs.calls.intact.Goals.{After-done, Else-not-stands, Start}
use Rattle.session.proofs.calls.intact.Goals as goal

full : (c : Start) → CELLS ≡ length c.args.s.held
full c = sym (c.well_formed.0.1.1.1.1.1.1.0.1.0.1)

-- the answer of the opening, as a test
opened : (c : After-done) → c.done.result ≡ openable c.args.s.trace c.args.s.model
unfolding openable
opened c = c.done.ensures ∙ ap is_done c.opening.ensures

pub returns-then-not-done : goal.returns-then-not-done
returns-then-not-done c = λ C. sym (intact-closed C _ (sym (opened (goal.at.returns-then-not-done c).After-done) ∙ not-true _ c.if-not-done.true-raw))

pub returns-then-not-stands : goal.returns-then-not-stands
returns-then-not-stands c = λ C. sym (intact-unstacked C _ (sym c.stands.ensures ∙ not-true _ c.if-not-stands.true-raw))

-- what the two tests have shown
shown : (c : Else-not-stands) → So (openable c.args.s.trace c.args.s.model)
    × Stands c.args.s.trace c.args.s.stack
shown c = (
  sym (opened c.before.before.before) ∙ not-false _ c.if-not-done.false-raw,
  (stands-iff _ _).0 (sym c.stands.ensures ∙ not-false _ c.if-not-stands.false-raw),
)

pub made-again-requires : goal.made-again-requires
made-again-requires c = shown c

pub returns-then-s-again : goal.returns-then-s-again
returns-then-s-again c = λ C.
    sym (intact-told C _ (λ e. false≢true (sym (not-true _ c.if-s-again.true) ∙ (beq-iff _ _).1 (e ∙ sym (ap (λ x. x.contradicted) (c.made-again.ensures C))))))

pub slice_bounds-equal-end : goal.slice_bounds-equal-end
slice_bounds-equal-end c = full (goal.at.slice_bounds-equal-end c).Start

pub returns : goal.returns
returns c = λ C.
    let e = c.made-again.ensures C in
    let b = shown (goal.at.returns c).Else-not-stands in
    test-one {A = Intact C c.args.s} (
      λ r. intact-parts C c.args.s b.0 b.1 ((beq-iff _ _).0 (not-false _ c.if-s-again.false) ∙ ap (λ x. x.contradicted) e) (c.equal.ensures.0 r ∙ ap (λ x. x.held) e),
      λ i. c.equal.ensures.1 (ap (λ x. x.held) (i.same ∙ sym e)),
    ) (intact-iff C c.args.s)
