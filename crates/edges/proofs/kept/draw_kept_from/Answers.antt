-- `edges::kept::draw_kept_from`: the later ones, less what is let off, and those behind a fence.
use Rattle.edges.proofs.LaterRecords.{kept_row}
use Rattle.edges.proofs.kept.draw_kept_from.Goals as goal

pub returns : goal.returns
returns c =
    kept_row c.args.later.now c.args.behind.now c.args.off.now (λ i. (c.type_inv.later i).fits) (λ i. (c.type_inv.behind i).fits)
    (λ i. (c.type_inv.off i).fits) c.args.thread c.args.x c.requires.0 c.args.kept.now _ _ _ c.requires.1 c.requires.2 c.add_row.ensures c.drop_row.ensures c.add_row-2.ensures
