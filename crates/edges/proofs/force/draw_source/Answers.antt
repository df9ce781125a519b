-- `edges::force::draw_source`: no source, or the one there is.
use native.Mathlib.Omega.{arith}
use Rattle.edges.proofs.PairSets.{adds-if, adds-only}
use Rattle.edges.proofs.DrawnEdges.{earlier-at, second_at}
use Rattle.edges.proofs.force.draw_source.Goals as goal

pub returns : goal.returns
returns c =
    let a = c.args in
    let e = earlier-at a.t a.source a.load _ _ c.thread.ensures c.thread-2.ensures in
    adds-only _ _ (second_at a.t a.source a.load (omega arith) _ e) (adds-if _ a.source a.load c.requires.2 (λ _. (omega arith, omega arith)) c.put_if.ensures)
