-- `edges::closed::with_own`: a row is taken, and the number put into it.
use Rattle.edges.proofs.ClosedTables.{own_row}
use Rattle.edges.proofs.closed.with_own.Goals as goal

pub returns : goal.returns
returns c =
    own_row c.args.rows.now (λ i. (c.type_inv.rows i).fits) c.args.x c.requires _ _ c.add_row.ensures c.put.ensures
