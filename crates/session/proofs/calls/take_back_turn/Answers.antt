-- `session::calls::take_back_turn`: 12, then 16.
use mathlib.Core.Path.{sym, ◌∙◌}
use borrow.Author.Tests.{not-true, not-false}
use Rattle.session.proofs.Answering.{back-unlike, back_none, back_done}
use Rattle.session.proofs.calls.take_back_turn.Goals as goal

pub returns-then-not-intact : goal.returns-then-not-intact
returns-then-not-intact c = λ C. sym (back-unlike C _ (sym (c.intact.ensures C) ∙ not-true _ c.if-not-intact.true-raw))

pub returns-then-s-eq0 : goal.returns-then-s-eq0
returns-then-s-eq0 c = λ C. sym (back_none C _ (sym (c.intact.ensures C) ∙ not-false _ c.if-not-intact.false-raw) c.if-s-eq0.true)

pub returns : goal.returns
returns c = λ C. sym (back_done C _ (sym (c.intact.ensures C) ∙ not-false _ c.if-not-intact.false-raw) c.if-s-eq0.false)
