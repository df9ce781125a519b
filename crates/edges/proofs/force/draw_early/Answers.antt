-- `edges::force::draw_early`: the row of the writers is drawn, or nothing.
use Rattle.edges.proofs.DrawnEdges.{early-drawn}
use Rattle.edges.proofs.force.draw_early.Goals as goal

pub returns-then-early : goal.returns-then-early
returns-then-early c =
    early-drawn c.args.early c.if-early.true c.args.others.now (λ i. (c.type_inv.others i).fits) c.args.load c.requires.0 c.args.edges.now _ c.requires.1 c.add_row.ensures
