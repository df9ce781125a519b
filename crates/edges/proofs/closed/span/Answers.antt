-- `edges::closed::span`: two rows are laid, and each is given to what lacks it.
use Rattle.edges.proofs.ClosedTables.{spans-of}
use Rattle.edges.proofs.closed.span.Goals as goal

pub returns : goal.returns
returns c =
    let a = c.args in
    spans-of a.edges.now a.turned.now a.a a.b _ _ _ _ _ _ c.with_own-after.ensures c.with_own-ahead.ensures c.rest-early.ensures c.rest-late.ensures c.spread.ensures c.spread-2.ensures
