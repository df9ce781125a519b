-- `session::calls::waiting`: 12, or the lowest record without a source.
use mathlib.Core.Path.{sym, ap, ◌∙◌}
use borrow.Author.Tests.{not-true, not-false}
use Rattle.session.specs.Entries.{waits_of}
use Rattle.session.proofs.Answering.{waiting-unlike, waiting-told}
use Rattle.session.proofs.calls.waiting.Goals as goal

pub returns-then-not-intact : goal.returns-then-not-intact
returns-then-not-intact c = λ C. waiting-unlike C _ (sym (c.intact.ensures C) ∙ not-true _ c.if-not-intact.true-raw)

pub returns : goal.returns
returns c = λ C.
    waiting-told C _ (sym (c.intact.ensures C) ∙ not-false _ c.if-not-intact.false-raw) _ (c.waits-answer.ensures ∙ ap waits_of c.missing.ensures)
