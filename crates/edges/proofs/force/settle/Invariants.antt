use Prim.Native.Nat.{◌≤◌}
use Rattle.edges.specs.inner.PairSets.{Union}
use Rattle.edges.specs.inner.DrawnEdges.{SettledFor}
use Rattle.edges.specs.inner.Takes.{Takes, AskNoted}
use Rattle.edges.proofs.force.settle.Given as goal

abbrev pub invariant-loop-load : goal.invariant-loop-load
invariant-loop-load l = (l.load ≤ l.n) × Takes (AskNoted l.n l.sources l.writers) l.initial.edges l.initial.turned (Union l.load (SettledFor l.n l.sources l.writers l.initial.edges)) l.edges l.turned
