-- `edges::force::settle_for`: two rows are taken in, the second into the tables exchanged.
use Rattle.trace.specs.Bounds.{RECORDS}
use Rattle.edges.proofs.Takes.{settled-takes}
use Rattle.edges.proofs.force.settle_for.Goals as goal

pub returns : goal.returns
returns c =
    let a = c.args in
    settled-takes RECORDS a.writers.now a.edges.now a.turned.now _ _ _ _ _ _ a.source a.load c.waiting-late.ensures c.take_row.ensures c.waiting-early.ensures c.take_row-2.ensures
