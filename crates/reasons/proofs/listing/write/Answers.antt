-- `listing::write`: what turns the question back, then whether there is an order, then the list.
use mathlib.Core.Path.{sym, ◌∙◌}
use Rattle.reasons.proofs.Answers.{wrote-model, wrote-form, wrote-source, wrote-order, wrote-paper, sourced-all, unfound}
use Rattle.reasons.proofs.listing.write.Goals as goal

pub returns-then-not-modelled : goal.returns-then-not-modelled
returns-then-not-modelled c =
    let a = c.args in
    wrote-model a.t a.model a.room.now (sym c.modelled.ensures ∙ c.if-not-modelled.true)

pub returns-then-not-well_formed : goal.returns-then-not-well_formed
returns-then-not-well_formed c =
    let a = c.args in
    wrote-form a.t a.model a.room.now (sym c.modelled.ensures ∙ c.if-not-modelled.false) (sym c.well_formed-2.ensures ∙ c.if-not-well_formed.true)

pub returns-in_default : goal.returns-in_default
returns-in_default c =
    let a = c.args in
    wrote-source a.t a.model a.room.now (sym c.modelled.ensures ∙ c.if-not-modelled.false) (sym c.well_formed-2.ensures ∙ c.if-not-well_formed.false) _ (sym c.missing.ensures ∙ c.in_default.is)

pub returns-then-order : goal.returns-then-order
returns-then-order c =
    let a = c.args in
    wrote-order a.t a.model a.room.now (sym c.modelled.ensures ∙ c.if-not-modelled.false) (sym c.well_formed-2.ensures ∙ c.if-not-well_formed.false) (sym c.missing.ensures ∙ c.in-None.is) c.first_order-order.result c.first_order-order.ensures c.if-order.true

pub lay_paper-requires : goal.lay_paper-requires
lay_paper-requires c =
    let a = c.args in
    let k = (sym c.modelled.ensures ∙ c.if-not-modelled.false) in
    let w = (sym c.well_formed-2.ensures ∙ c.if-not-well_formed.false) in
    let e = sym c.missing.ensures ∙ c.in-None.is in
    (w, k, sourced-all a.t a.model a.room.now k w e, unfound a.t a.model a.room.now k w e c.first_order-order.result c.first_order-order.ensures c.if-order.false)

pub returns : goal.returns
returns c =
    let a = c.args in
    let k = (sym c.modelled.ensures ∙ c.if-not-modelled.false) in
    let w = (sym c.well_formed-2.ensures ∙ c.if-not-well_formed.false) in
    let e = sym c.missing.ensures ∙ c.in-None.is in
    wrote-paper a.t a.model a.room.now k w e (unfound a.t a.model a.room.now k w e c.first_order-order.result c.first_order-order.ensures c.if-order.false) c.lay_paper.new.room c.lay_paper.result c.lay_paper.ensures
