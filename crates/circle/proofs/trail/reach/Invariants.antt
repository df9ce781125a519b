use mathlib.Core.Path.{◌≡◌}
use Prim.Native.Nat.{◌+◌, ◌≤◌}
use lib.ListN.{length}
use Rattle.rows.specs.Bounds.{CELLS}
use Rattle.rows.specs.Rows.{Edges}
use Rattle.circle.specs.inner.BackSteps.{Reach}
use Rattle.circle.proofs.trail.reach.Given as goal

abbrev pub invariant-loop-j : goal.invariant-loop-j
invariant-loop-j l = (l.j + 1 ≤ l.k) × (length l.rows ≡ CELLS) × Reach (Edges l.edges) l.s (l.j + 1) l.rows
