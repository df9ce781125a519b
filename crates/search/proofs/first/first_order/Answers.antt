-- `search::first::first_order`: the first order by the rows of the model's kept pairs.
use mathlib.Core.Path.{sym, ◌∙◌}
use Rattle.search.proofs.FirstOrder.{first-model, first-kept}
use Rattle.search.proofs.first.first_order.Goals as goal

pub returns-then-modelled : goal.returns-then-modelled
returns-then-modelled c =
    first-kept c.args.t c.args.model _ (sym c.modelled.ensures ∙ c.if-modelled.true) _ c.kept_rows-kept.ensures c.first_order_by.ensures

pub returns : goal.returns
returns c =
    first-model c.args.t c.args.model c.nothing.result (sym c.modelled.ensures ∙ c.if-modelled.false) c.nothing.ensures
