use Prim.Native.Nat.{◌≤◌}
use Rattle.edges.specs.inner.PairSets.{Union}
use Rattle.rows.specs.inner.AddedPairs.{Added}
use Rattle.edges.specs.inner.DrawnEdges.{SettledFor}
use Rattle.edges.proofs.force.draw_settled.Given as goal

abbrev pub invariant-loop-load : goal.invariant-loop-load
invariant-loop-load l = (l.load ≤ l.n) × Added l.initial.edges (Union l.load (SettledFor l.n l.sources l.writers l.chains)) l.edges
