-- `session::calls::add_turn`: 12, then what is wrong with the record.
use mathlib.Core.Path.{sym, ap, ◌∙◌}
use borrow.Author.Tests.{not-true, not-false}
use Rattle.session.specs.Entries.{fault_answer}
use Rattle.session.proofs.Answering.{add-unlike, add-fault}
use Rattle.session.proofs.calls.add_turn.Goals as goal

pub returns-then-not-intact : goal.returns-then-not-intact
returns-then-not-intact c = λ C. sym (add-unlike C _ _ (sym (c.intact.ensures C) ∙ not-true _ c.if-not-intact.true-raw))

pub returns : goal.returns
returns c = λ C.
    c.fault_answer.ensures ∙ ap fault_answer c.fault_of.ensures ∙ sym (add-fault C _ _ (sym (c.intact.ensures C) ∙ not-false _ c.if-not-intact.false-raw))
