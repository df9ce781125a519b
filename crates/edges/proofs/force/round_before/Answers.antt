-- `edges::force::round_before`: the rounds are run where there is something to answer.
use mathlib.Core.Path.{◌≡◌, refl, sym, ap₂, ◌∙◌}
use mathlib.Core.Bool.{false, ◌&&◌}
use Rattle.trace.specs.WellFormed.{well_formed}
use Rattle.pairs.specs.Kept.{modelled}
use Rattle.edges.proofs.RoundBefore.{prior-some, prior-none}
use Rattle.edges.proofs.force.round_before.Goals.{else-well_formed-via-then-well_formed+else-modelled, else-well_formed-via-else-well_formed}
use Rattle.edges.proofs.force.round_before.Goals as goal

pub returns-then-modelled : goal.returns-then-modelled
returns-then-modelled c =
    prior-some c.args.t c.args.model c.args.supposed.now c.args.k c.args.x c.args.y _ (ap₂ ◌&&◌ (sym c.well_formed-2.ensures ∙ c.if-well_formed.true) (sym c.modelled.ensures ∙ c.if-modelled.true)) _ c.kept_rows-kept.ensures c.run_before-number.ensures

pub returns : goal.returns
returns c =
    let none : (well_formed c.args.t && modelled c.args.model) ≡ false = elim c.else-well_formed.branch [
      | else-well_formed-via-then-well_formed+else-modelled w ↦ ap₂ ◌&&◌ (sym c.well_formed-2.ensures ∙ w.if-well_formed.true) (sym w.modelled.ensures ∙ w.if-modelled.false)
      | else-well_formed-via-else-well_formed w ↦ ap₂ ◌&&◌ (sym c.well_formed-2.ensures ∙ w.if-well_formed.false) refl
    ] in
    prior-none c.args.t c.args.model c.args.supposed.now c.args.k c.args.x c.args.y _ none refl refl refl
