use Prim.Native.Nat.{◌≤◌}
use Rattle.edges.specs.inner.PairSets.{Union}
use Rattle.edges.specs.inner.DrawnEdges.{SparedFrom}
use Rattle.rows.specs.inner.AddedPairs.{Added}
use Rattle.edges.proofs.force.draw_lent.Given as goal

abbrev pub invariant-loop-x : goal.invariant-loop-x
invariant-loop-x l = (l.x ≤ l.n) × Added l.initial.edges (Union l.x (SparedFrom l.lent l.others)) l.edges
