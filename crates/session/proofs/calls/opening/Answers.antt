-- `session::calls::opening`: each of its ways out.
use mathlib.Core.Path.{sym, ◌∙◌}
use borrow.Author.Tests.{not-true, not-false}
use Rattle.session.proofs.Openings.{opening-nine, opening-ten, opening-asks}
use Rattle.session.proofs.calls.opening.Goals as goal

pub returns-then-not-modelled : goal.returns-then-not-modelled
returns-then-not-modelled c = sym (opening-nine _ _ (sym c.modelled.ensures ∙ not-true _ c.if-not-modelled.true-raw))

pub returns-then-not-well_formed : goal.returns-then-not-well_formed
returns-then-not-well_formed c =
    sym (opening-ten _ _ (sym c.modelled.ensures ∙ not-false _ c.if-not-modelled.false-raw) (sym c.well_formed-2.ensures ∙ not-true _ c.if-not-well_formed.true-raw))

pub returns : goal.returns
returns c =
    sym (opening-asks _ _ (sym c.modelled.ensures ∙ not-false _ c.if-not-modelled.false-raw) (sym c.well_formed-2.ensures ∙ not-false _ c.if-not-well_formed.false-raw))
