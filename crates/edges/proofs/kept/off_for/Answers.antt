-- `edges::kept::off_for`: what is let off at two addresses, less what has the address, and what is let off at one.
use Rattle.edges.proofs.LaterRecords.{off-row}
use Rattle.edges.proofs.kept.off_for.Goals as goal

pub returns : goal.returns
returns c =
    off-row c.args.elsewhere.now c.args.there.now c.args.places.now (λ i. (c.type_inv.elsewhere i).fits) (λ i. (c.type_inv.there i).fits)
    (λ i. (c.type_inv.places i).fits) c.args.kind c.args.addr _ _ _ c.add_row.ensures c.drop_row.ensures c.add_row-2.ensures
