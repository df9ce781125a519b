-- `session::calls::add`: what is turned back, and the session made afresh on the longer trace.
use mathlib.Core.Path.{sym, ap, ◌∙◌, subst}
use mathlib.Core.Bool.{So}
use borrow.Author.Tests.{not-true, not-false}
use Rattle.trace.specs.declared.Trace.{Trace}
use Rattle.session.specs.Opening.{is_done, openable}
use Rattle.session.specs.Session.{afresh}
use Rattle.session.specs.Entries.{joins}
use Rattle.session.specs.Stack.{standing, Stands}
use Rattle.session.proofs.Forcing.{closings-some}
use Rattle.session.proofs.Joining.{joined-opens, joined-stands}
use Rattle.session.proofs.Sessions.{intact-stands}
use Rattle.session.proofs.Answering.{add-allows, add-taken, add-refused}
use Rattle.session.proofs.calls.add.Goals.{Else-not-done}
use Rattle.session.proofs.calls.add.Goals as goal

-- what is so where nothing was turned back, whatever tells it
allowed : (c : Else-not-done) → let a = c.args in
    So (openable a.s.trace a.s.model) × Stands a.s.trace a.s.stack × So (joins a.s.trace a.op)
allowed c =
    let C = closings-some in
    let a = add-allows C _ _ (sym (ap is_done (c.add_turn-answer.ensures C)) ∙ sym c.done.ensures ∙ not-false _ c.if-not-done.false-raw) in
    (a.0.opens, intact-stands C _ a.0, a.1)

pub returns-then-not-done : goal.returns-then-not-done
returns-then-not-done c = λ C. add-refused C _ _ _ (c.add_turn-answer.ensures C) (sym c.done.ensures ∙ not-true _ c.if-not-done.true-raw)

pub made-session-requires : goal.made-session-requires
made-session-requires c =
    let a = allowed (goal.at.made-session-requires c).Else-not-done in
    let s = c.args.s in
    let o = c.args.op in (
      subst (λ (t : Trace). So (openable t s.model)) (sym c.pushed-t.ensures) (joined-opens s.trace o a.2 s.model a.0),
      subst (λ (t : Trace). Stands t s.stack) (sym c.pushed-t.ensures) (joined-stands s.trace o a.2 s.stack a.1),
    )

pub returns : goal.returns
returns c = λ C.
    let s = c.args.s in
    add-taken C _ _ _ (c.add_turn-answer.ensures C) (sym c.done.ensures ∙ not-false _ c.if-not-done.false-raw) _
    (c.made-session.ensures C ∙ ap (λ t. afresh C t s.model (standing s.stack)) c.pushed-t.ensures)
