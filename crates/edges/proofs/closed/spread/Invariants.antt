use mathlib.Core.Path.{◌≡◌}
use mathlib.Core.Logic.{◌⊎◌}
use mathlib.Core.Bool.{So}
use Prim.Native.Nat.{◌<◌, ◌-◌}
use Rattle.trace.specs.Bounds.{RECORDS}
use Rattle.rows.specs.Rows.{bit}
use Rattle.rows.specs.inner.AddedPairs.{Added}
use Rattle.edges.specs.inner.ClosedTables.{Spread}
use Rattle.edges.proofs.closed.spread.Given as goal

abbrev pub invariant-loop-x : goal.invariant-loop-x
invariant-loop-x l = (So (bit l.heads 0 l.x) ⊎ (l.x ≡ RECORDS)) × Added l.initial.rows (λ i j. (i < l.x) × Spread l.heads l.row i j) l.rows

abbrev pub decreases-loop-x : goal.decreases-loop-x
decreases-loop-x l = RECORDS - l.x
