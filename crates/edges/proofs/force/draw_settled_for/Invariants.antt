use mathlib.Core.Path.{◌≡◌}
use mathlib.Core.Logic.{◌⊎◌}
use mathlib.Core.Bool.{So}
use Prim.Native.Nat.{◌-◌}
use Rattle.trace.specs.Bounds.{RECORDS}
use Rattle.rows.specs.Rows.{bit}
use Rattle.edges.specs.inner.PairSets.{Swept}
use Rattle.rows.specs.inner.AddedPairs.{Added}
use Rattle.edges.specs.inner.DrawnEdges.{SettledBy}
use Rattle.edges.proofs.force.draw_settled_for.Given as goal

abbrev pub invariant-loop-x : goal.invariant-loop-x
invariant-loop-x l = (So (bit l.writers l.load l.x) ⊎ (l.x ≡ RECORDS)) × Added l.initial.edges (Swept l.n l.x (SettledBy l.writers l.chains l.source l.load)) l.edges

abbrev pub decreases-loop-x : goal.decreases-loop-x
decreases-loop-x l = l.n - l.x
