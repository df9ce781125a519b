-- `show::circle_of`: the circle by the rows of the model's kept pairs.
use mathlib.Core.Path.{refl, sym, ◌∙◌}
use Rattle.circle.proofs.CircleOf.{circle-model, circle-kept}
use Rattle.circle.proofs.show.circle_of.Goals as goal

pub returns-then-modelled : goal.returns-then-modelled
returns-then-modelled c =
    circle-kept c.args.t c.args.model (sym c.modelled.ensures ∙ c.if-modelled.true) _ c.kept_rows-kept.ensures _ c.circle_by.ensures

pub returns : goal.returns
returns c =
    circle-model c.args.t c.args.model (sym c.modelled.ensures ∙ c.if-modelled.false) _ refl refl refl
