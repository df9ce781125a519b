-- `session::calls::take_back`: what is turned back, and the session made afresh without its latest pair.
use mathlib.Core.Path.{sym, ap, ◌∙◌}
use mathlib.Core.Logic.{◌≢◌}
use mathlib.Core.Bool.{So}
use native.Mathlib.Omega.{arith}
use borrow.Author.Tests.{not-true, not-false}
use Rattle.session.specs.Stack.{Stands}
use Rattle.session.specs.Opening.{is_done, openable}
use Rattle.session.specs.Session.{afresh}
use Rattle.session.proofs.Pairs.{popped-stands, standing-popped}
use Rattle.session.proofs.Forcing.{closings-some}
use Rattle.session.proofs.Sessions.{intact-stands}
use Rattle.session.proofs.Answering.{back-allows, back-taken, back-refused}
use Rattle.session.proofs.calls.take_back.Goals.{Else-not-done}
use Rattle.session.proofs.calls.take_back.Goals as goal

-- what is so where nothing was turned back, whatever tells it
allowed : (c : Else-not-done) → let a = c.args in
    So (openable a.s.trace a.s.model) × Stands a.s.trace a.s.stack × (a.s.stack.count ≢ 0)
allowed c =
    let C = closings-some in
    let a = back-allows C _ (sym (ap is_done (c.take_back_turn-answer.ensures C)) ∙ sym c.done.ensures ∙ not-false _ c.if-not-done.false-raw) in
    (a.0.opens, intact-stands C _ a.0, a.1)

pub returns-then-not-done : goal.returns-then-not-done
returns-then-not-done c = λ C. back-refused C _ _ (c.take_back_turn-answer.ensures C) (sym c.done.ensures ∙ not-true _ c.if-not-done.true-raw)

pub overflow_sub-last : goal.overflow_sub-last
overflow_sub-last c = let d = (allowed (goal.at.overflow_sub-last c).Else-not-done).2 in omega arith

pub offset_bounds-rest-last : goal.offset_bounds-rest-last
offset_bounds-rest-last c = let r = (allowed (goal.at.offset_bounds-rest-last c).Else-not-done).1.room in omega arith

pub bounds-rest-last : goal.bounds-rest-last
bounds-rest-last c = let a = allowed (goal.at.bounds-rest-last c).Else-not-done in let d = a.2 in let r = a.1.room in omega arith

pub made-session-requires : goal.made-session-requires
made-session-requires c = let a = allowed (goal.at.made-session-requires c).Else-not-done in (a.0, popped-stands _ _ a.1)

pub returns : goal.returns
returns c = λ C.
    let s = c.args.s in
    back-taken C _ _ (c.take_back_turn-answer.ensures C) (sym c.done.ensures ∙ not-false _ c.if-not-done.false-raw) _
    (c.made-session.ensures C ∙ ap (afresh C s.trace s.model) (standing-popped s.trace s.stack (allowed (goal.at.returns c).Else-not-done).1))
