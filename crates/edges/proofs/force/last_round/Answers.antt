-- `edges::force::last_round`: the last round by the rows of the model's kept pairs.
use mathlib.Core.Path.{refl, sym, ◌∙◌}
use Rattle.edges.proofs.ForcedPairs.{rounded-model, rounded-kept}
use Rattle.edges.proofs.force.last_round.Goals as goal

pub returns-then-modelled : goal.returns-then-modelled
returns-then-modelled c =
    rounded-kept c.args.t c.args.model c.args.supposed.now (sym c.modelled.ensures ∙ c.if-modelled.true) _ c.kept_rows-kept.ensures _ c.last_round_by.ensures

pub returns : goal.returns
returns c =
    rounded-model c.args.t c.args.model c.args.supposed.now _ (sym c.modelled.ensures ∙ c.if-modelled.false) refl refl refl refl refl
