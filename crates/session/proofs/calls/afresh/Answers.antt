-- `session::calls::afresh`: whether the session can be opened and the stack stands, then the session made, or the one beside a refusal.
use mathlib.Core.Path.{◌≡◌, sym, ap, ap₂, ◌∙◌}
use mathlib.Core.Bool.{◌&&◌}
use Rattle.laws.proofs.Tests.{and-iff, same-iff}
use Rattle.session.specs.Stack.{stands}
use Rattle.session.specs.Opening.{is_done, openable}
use Rattle.session.proofs.Pairs.{stands-iff}
use Rattle.session.proofs.Answering.{afresh-done, afresh-unlike}
use Rattle.session.proofs.calls.afresh.Goals.{After-stands}
use Rattle.session.proofs.calls.afresh.Goals as goal

-- both tests
tested : (c : After-stands) → let a = c.args in
    (c.done.result && c.stands.result) ≡ (openable a.t a.model && stands a.t a.k)
unfolding openable
tested c = ap₂ ◌&&◌ (c.done.ensures ∙ ap is_done c.opening.ensures) c.stands.ensures

pub made-session-requires : goal.made-session-requires
made-session-requires c = (and-iff same-iff (stands-iff _ _)).0 (sym (tested (goal.at.made-session-requires c).After-stands) ∙ c.if-done-stands.true)

pub returns-then-done-stands : goal.returns-then-done-stands
returns-then-done-stands c = λ C. afresh-done C _ _ _ (sym (tested (goal.at.returns-then-done-stands c).After-stands) ∙ c.if-done-stands.true) _ (c.made-session.ensures C)

pub returns : goal.returns
returns c = λ C. afresh-unlike C _ _ _ (sym (tested (goal.at.returns c).After-stands) ∙ c.if-done-stands.false) _ (c.blank-session.ensures C)
