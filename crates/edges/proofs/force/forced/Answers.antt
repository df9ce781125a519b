-- `edges::force::forced`: what is forced by the rows of the model's kept pairs.
use mathlib.Core.Path.{refl, sym, ◌∙◌}
use Rattle.edges.proofs.ForcedPairs.{forces-model, forces-kept}
use Rattle.edges.proofs.force.forced.Goals as goal

pub returns-then-modelled : goal.returns-then-modelled
returns-then-modelled c =
    forces-kept c.args.t c.args.model c.args.supposed.now (sym c.modelled.ensures ∙ c.if-modelled.true) _ c.kept_rows-kept.ensures _ c.forced_by.ensures

pub returns : goal.returns
returns c =
    forces-model c.args.t c.args.model c.args.supposed.now _ (sym c.modelled.ensures ∙ c.if-modelled.false) refl refl
