-- `edges::force::others_in`: the row is taken over, and the load taken out of it.
use Rattle.edges.proofs.DrawnEdges.{others-row}
use Rattle.edges.proofs.force.others_in.Goals as goal

pub returns : goal.returns
returns c =
    others-row c.args.stores.now (λ i. (c.type_inv.stores i).fits) c.args.addr c.args.load c.requires _ _ _ c.put.ensures c.add_row.ensures c.drop_row.ensures
