-- `edges::force::draw_first`: the rows are cleared, then the pairs and the values are drawn.
use mathlib.Core.Path.{◌∙◌, ap}
use lib.ListN.{length}
use Rattle.trace.proofs.WellFormed.{form-iff}
use Rattle.rows.proofs.Whole.{empty-long}
use Rattle.edges.proofs.LastRound.{begun}
use Rattle.edges.proofs.force.draw_first.Goals as goal

pub draw_pairs-requires : goal.draw_pairs-requires
draw_pairs-requires c =
    (((form-iff c.args.t).0 c.requires.0).fits, ap length c.clear-2.ensures ∙ empty-long _ ∙ c.requires.3)

pub draw_values-requires : goal.draw_values-requires
draw_values-requires c =
    (((form-iff c.args.t).0 c.requires.0).fits, c.requires.1, ap length c.clear.ensures ∙ empty-long _ ∙ c.requires.2, c.draw_pairs.ensures.long ∙ ap length c.clear-2.ensures ∙ empty-long _ ∙ c.requires.3)

pub returns : goal.returns
returns c =
    begun c.args.t c.args.kept.now c.args.supposed.now _ _ _ _ _ _ (length c.args.writers.now) (length c.args.edges.now) c.requires.0 c.clear.ensures c.requires.2 c.clear-2.ensures c.requires.3 c.draw_pairs.ensures c.draw_values.ensures
