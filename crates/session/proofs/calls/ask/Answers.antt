-- `session::calls::ask`: what is turned back, and what the table tells.
use mathlib.Core.Path.{sym, ◌∙◌}
use borrow.Author.Tests.{not-true, not-false}
use Rattle.session.proofs.Answering.{ask-told, ask-refused}
use Rattle.session.proofs.calls.ask.Goals as goal

pub returns-then-not-done : goal.returns-then-not-done
returns-then-not-done c = λ C. ask-refused C _ _ _ _ (c.pair_turn-turn.ensures C) (sym c.done.ensures ∙ not-true _ c.if-not-done.true-raw)

pub returns : goal.returns
returns c = λ C. ask-told C _ _ _ _ (c.pair_turn-turn.ensures C) (sym c.done.ensures ∙ not-false _ c.if-not-done.false-raw) _ c.told-answer.ensures
