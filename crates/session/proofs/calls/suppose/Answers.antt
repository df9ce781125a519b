-- `session::calls::suppose`: what is turned back, and the session made afresh with one pair more.
use mathlib.Core.Path.{sym, ap, ◌∙◌}
use mathlib.Core.Bool.{So}
use Prim.Native.Nat.{◌<◌}
use native.Mathlib.Omega.{arith}
use borrow.Author.Tests.{not-true, not-false}
use Rattle.session.specs.Bounds.{PAIRS}
use Rattle.session.specs.Stack.{supposable, Stands}
use Rattle.session.specs.Opening.{is_done, openable}
use Rattle.session.specs.Session.{afresh}
use Rattle.session.proofs.Pairs.{pushed-stands, standing-pushed}
use Rattle.session.proofs.Forcing.{closings-some}
use Rattle.session.proofs.Sessions.{intact-stands}
use Rattle.session.proofs.Answering.{suppose-allows, suppose-taken, suppose-refused}
use Rattle.session.proofs.calls.suppose.Goals.{Else-not-done}
use Rattle.session.proofs.calls.suppose.Goals as goal

-- what is so where nothing was turned back, whatever tells it
allowed : (c : Else-not-done) → let a = c.args in
    So (openable a.s.trace a.s.model)
    × Stands a.s.trace a.s.stack
    × So (supposable a.s.trace (record { first = a.x; second = a.y }))
    × (a.s.stack.count < PAIRS)
allowed c =
    let C = closings-some in
    let a = suppose-allows C _ _ _ (sym (ap is_done (c.suppose_turn-answer.ensures C)) ∙ sym c.done.ensures ∙ not-false _ c.if-not-done.false-raw) in
    (a.0.opens, intact-stands C _ a.0, a.1, a.2)

pub returns-then-not-done : goal.returns-then-not-done
returns-then-not-done c = λ C. suppose-refused C _ _ _ _ (c.suppose_turn-answer.ensures C) (sym c.done.ensures ∙ not-true _ c.if-not-done.true-raw)

pub overflow_add-next : goal.overflow_add-next
overflow_add-next c = let l = (allowed (goal.at.overflow_add-next c).Else-not-done).3 in omega arith

pub offset_bounds-k-at : goal.offset_bounds-k-at
offset_bounds-k-at c = let l = (allowed (goal.at.offset_bounds-k-at c).Else-not-done).3 in omega arith

pub bounds-k-at : goal.bounds-k-at
bounds-k-at c = (allowed (goal.at.bounds-k-at c).Else-not-done).3

pub made-session-requires : goal.made-session-requires
made-session-requires c = let a = allowed (goal.at.made-session-requires c).Else-not-done in (a.0, pushed-stands _ _ a.1 _ a.3 a.2)

pub returns : goal.returns
returns c = λ C.
    let a = allowed (goal.at.returns c).Else-not-done in
    let s = c.args.s in
    suppose-taken C _ _ _ _ (c.suppose_turn-answer.ensures C) (sym c.done.ensures ∙ not-false _ c.if-not-done.false-raw) _
    (c.made-session.ensures C ∙ ap (afresh C s.trace s.model) (standing-pushed s.trace s.stack a.1 _ a.3))
