-- `reading::accepts`: no such model, then no such trace, then what the list closes.
use mathlib.Core.Path.{refl, sym, ◌∙◌}
use Rattle.trace.proofs.WellFormed.{form-iff}
use Rattle.papers.proofs.ReaderAnswers.{told-form, told-closed}
use Rattle.papers.proofs.reading.accepts.Goals as goal

pub returns-then-not-modelled : goal.returns-then-not-modelled
returns-then-not-modelled c =
    sym c.modelled.ensures ∙ c.if-not-modelled.true

pub returns-then-not-well_formed : goal.returns-then-not-well_formed
returns-then-not-well_formed c =
    let s = c.args in
    told-form s.t s.model s.list.now (sym c.modelled.ensures ∙ c.if-not-modelled.false)
    (sym c.well_formed-2.ensures ∙ c.if-not-well_formed.true)

pub closing-closed-requires : goal.closing-closed-requires
closing-closed-requires c =
    let w = sym c.well_formed-2.ensures ∙ c.if-not-well_formed.false in
    (((form-iff c.args.t).0 w).fits, refl, refl, refl)

pub returns : goal.returns
returns c =
    let s = c.args in
    let m = sym c.modelled.ensures ∙ c.if-not-modelled.false in
    let w = sym c.well_formed-2.ensures ∙ c.if-not-well_formed.false in
    told-closed s.t s.model s.list.now m w c.closing-closed.result c.closing-closed.ensures
