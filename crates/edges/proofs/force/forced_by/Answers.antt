-- `edges::force::forced_by`: what is taken in, where there is something to answer.
use mathlib.Core.Path.{refl, sym, ◌∙◌}
use Rattle.rows.specs.Lent.{lent_of}
use Rattle.edges.proofs.ForcedPairs.{forces-none}
use Rattle.edges.proofs.force.forced_by.Goals as goal

pub returns : goal.returns
returns c =
    forces-none c.args.t (lent_of c.args.t c.args.kept.now) c.args.supposed.now _ (sym c.well_formed-2.ensures ∙ c.if-well_formed.false) refl refl
