use mathlib.Core.Path.{◌≡◌}
use mathlib.Core.Logic.{◌⊎◌}
use Prim.Native.Nat.{ℕ, ◌<◌, ◌-◌}
use Rattle.trace.specs.Bounds.{RECORDS}
use Rattle.rows.specs.Rows.{Edges}
use Rattle.circle.proofs.trail.step_to.Given as goal

abbrev pub invariant-loop-to : goal.invariant-loop-to
invariant-loop-to l = (Edges l.edges l.x l.to ⊎ (l.to ≡ RECORDS)) × ((z : ℕ) → z < l.to → Edges l.edges l.x z × Edges l.reach l.j z → ⊥)

abbrev pub decreases-loop-to : goal.decreases-loop-to
decreases-loop-to l = RECORDS - l.to
