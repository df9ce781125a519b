use mathlib.Core.Bool.{So}
use Prim.Native.Nat.{ℕ, ◌≤◌, ◌<◌, ◌-◌}
use Rattle.trace.specs.Bounds.{RECORDS}
use Rattle.rows.specs.Rows.{bit}
use Rattle.rows.proofs.next.Given as goal

abbrev pub invariant-loop-z : goal.invariant-loop-z
invariant-loop-z l = (l.from ≤ l.z) × ((y : ℕ) → l.from ≤ y → y < l.z → So (bit l.rows l.x y) → ⊥)

abbrev pub decreases-loop-z : goal.decreases-loop-z
decreases-loop-z l = RECORDS - l.z
