-- `edges::force::draw_lent_from`: the row is taken over, what is spared is taken out of it, and the rest is drawn.
use Rattle.edges.proofs.LentPairs.{spared}
use Rattle.edges.proofs.force.draw_lent_from.Goals as goal

pub returns : goal.returns
returns c =
    spared c.args.lent.now (λ i. (c.type_inv.lent i).fits) c.args.others.now (λ i. (c.type_inv.others i).fits) c.args.x c.requires.0 _ _ c.add_row.ensures c.drop_row.ensures c.args.edges.now _ c.requires.1 c.add_row-2.ensures
