use mathlib.Core.Path.{◌≡◌}
use mathlib.Core.Logic.{◌⊎◌}
use mathlib.Core.Bool.{So}
use Prim.Native.Nat.{◌-◌}
use Rattle.trace.specs.Bounds.{RECORDS}
use Rattle.trace.specs.Meaning.{frame_of}
use Rattle.rows.specs.Rows.{bit}
use Rattle.rows.specs.inner.AddedPairs.{Added}
use Rattle.edges.specs.inner.PairSets.{Swept}
use Rattle.edges.specs.inner.DrawnEdges.{PassedBy}
use Rattle.edges.proofs.force.draw_values_from.Given as goal

abbrev pub invariant-loop-x : goal.invariant-loop-x
invariant-loop-x l = (So (bit l.others 0 l.x) ⊎ (l.x ≡ RECORDS)) × Added l.initial.edges (Swept l.load l.x (PassedBy (frame_of l.t) l.others l.early l.source l.load)) l.edges

abbrev pub decreases-loop-x : goal.decreases-loop-x
decreases-loop-x l = l.load - l.x
