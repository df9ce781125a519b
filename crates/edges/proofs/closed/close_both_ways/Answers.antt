-- `edges::closed::close_both_ways`: what leads forward is closed and turned round, and the others are taken in.
use Rattle.edges.proofs.ClosedTables.{closed_of}
use Rattle.edges.proofs.closed.close_both_ways.Goals as goal

pub returns : goal.returns
returns c =
    closed_of c.args.n c.args.edges.now _ _ c.args.turned.now _ _ _ _ c.requires.1 c.lay_forward.ensures c.chains.ensures c.requires.3 c.turn.ensures c.take_rows.ensures c.reflexive.ensures
