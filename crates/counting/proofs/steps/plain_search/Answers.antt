-- `counting::steps::plain_search`: with nothing to search, over the limit; otherwise by what the search came to.
use mathlib.Core.Path.{refl, sym, ap₂, ◌∙◌}
use mathlib.Core.Bool.{So, ◌&&◌}
use mathlib.Core.Logic.{inl, inr}
use Rattle.laws.proofs.Tests.{and-iff, same-iff}
use Rattle.trace.specs.WellFormed.{well_formed}
use Rattle.pairs.specs.Kept.{modelled}
use Rattle.edges.specs.ForcedPairs.{answered}
use Rattle.pairs.proofs.ValidOrders.{well-fits}
use Rattle.counting.proofs.CountedAnswer.{sets-fit, counted-refused, counted-order, counted-end, counted-over}
use Rattle.counting.proofs.steps.plain_search.Goals as goal

pub returns-then-not-well_formed-modelled : goal.returns-then-not-well_formed-modelled
returns-then-not-well_formed-modelled c =
    let a = c.args in
    let e = ap₂ ◌&&◌ c.well_formed-2.ensures c.modelled.ensures in
    c.bare.ensures ∙ counted-refused a.t a.model a.limit (sym e ∙ c.if-not-well_formed-modelled.true)

pub lay_sets-total-requires : goal.lay_sets-total-requires
lay_sets-total-requires c =
    let a = c.args in
    let h : So (answered a.model a.t) = sym (ap₂ ◌&&◌ c.well_formed-2.ensures c.modelled.ensures) ∙ c.if-not-well_formed-modelled.false in
    (well-fits a.t ((and-iff (same-iff {a = well_formed a.t}) (same-iff {a = modelled a.model})).0 h).0, refl, refl, refl)

pub look-walked-requires : goal.look-walked-requires
look-walked-requires c =
    let a = c.args in
    let h : So (answered a.model a.t) = sym (ap₂ ◌&&◌ c.well_formed-2.ensures c.modelled.ensures) ∙ c.if-not-well_formed-modelled.false in
    let p = (and-iff (same-iff {a = well_formed a.t}) (same-iff {a = modelled a.model})).0 h in
    let n = c.lay_sets-total.ensures in
    (p.0, p.1, n, sets-fit a.t p.0 _ _ _ _ n)

pub returns-in-Order : goal.returns-in-Order
returns-in-Order c =
    let a = c.args in
    let h : So (answered a.model a.t) = sym (ap₂ ◌&&◌ c.well_formed-2.ensures c.modelled.ensures) ∙ c.if-not-well_formed-modelled.false in
    let p = (and-iff (same-iff {a = well_formed a.t}) (same-iff {a = modelled a.model})).0 h in
    let n = c.lay_sets-total.ensures in
    let k = c.look-walked in
    counted-order a.t a.model a.limit h _ n.total _ _ k.ensures _ c.in-Order.is (sets-fit a.t p.0 _ _ _ _ n) k.auto.list

pub returns-in-End : goal.returns-in-End
returns-in-End c =
    let a = c.args in
    let h : So (answered a.model a.t) = sym (ap₂ ◌&&◌ c.well_formed-2.ensures c.modelled.ensures) ∙ c.if-not-well_formed-modelled.false in
    let n = c.lay_sets-total.ensures.total in
    let k = c.look-walked.ensures in
    c.bare-in-End.ensures ∙ (elim c.in-End.is [
      | inl (_, e) ↦ counted-end a.t a.model a.limit h _ n _ _ k _ e
      | inr e ↦ counted-over a.t a.model a.limit h _ n _ _ k e
    ])
