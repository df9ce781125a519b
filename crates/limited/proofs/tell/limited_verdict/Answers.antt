-- `limited::tell::limited_verdict`: 9 before 10, then a missing source, then the rest.
use mathlib.Core.Path.{sym, ◌∙◌, subst}
use Rattle.limited.specs.LimitedVerdict.{ToldLimited}
use Rattle.limited.specs.declared.Limit.{Limit}
use Rattle.limited.proofs.LaidOut.{told-model, told-form, told-source}
use Rattle.limited.proofs.tell.limited_verdict.Goals as goal

pub returns-then-not-modelled : goal.returns-then-not-modelled
returns-then-not-modelled c = subst (λ (r : Limit). ToldLimited c.args.t c.args.model c.args.limit r) (sym c.bare.ensures) (told-model c.args.t c.args.model c.args.limit (sym c.modelled.ensures ∙ c.if-not-modelled.true))

pub returns-then-not-well_formed : goal.returns-then-not-well_formed
returns-then-not-well_formed c = subst (λ (r : Limit). ToldLimited c.args.t c.args.model c.args.limit r) (sym c.bare-then-not-well_formed.ensures)
    (told-form c.args.t c.args.model c.args.limit (sym c.modelled.ensures ∙ c.if-not-modelled.false) (sym c.well_formed-2.ensures ∙ c.if-not-well_formed.true))

pub circle_or_count-requires : goal.circle_or_count-requires
circle_or_count-requires c = record { model = sym c.modelled.ensures ∙ c.if-not-modelled.false; well = sym c.well_formed-2.ensures ∙ c.if-not-well_formed.false; sourced = sym c.missing.ensures ∙ c.in-None.is }

pub returns-in-Some : goal.returns-in-Some
returns-in-Some c = subst (λ (r : Limit). ToldLimited c.args.t c.args.model c.args.limit r) (sym c.bare-in-Some.ensures)
    (told-source c.args.t c.args.model c.args.limit (sym c.modelled.ensures ∙ c.if-not-modelled.false) (sym c.well_formed-2.ensures ∙ c.if-not-well_formed.false) _ (sym c.in-Some.is ∙ c.missing.ensures))
