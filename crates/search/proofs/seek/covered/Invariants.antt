use mathlib.Core.Bool.{So}
use Prim.Native.Nat.{ℕ, ◌<◌, ◌-◌}
use Rattle.rows.specs.Rows.{bit}
use Rattle.trace.specs.Bounds.{RECORDS}
use Rattle.search.proofs.seek.covered.Given as goal

abbrev pub invariant-loop-z : goal.invariant-loop-z
invariant-loop-z l = (x : ℕ) → x < l.z → So (bit l.others 0 x) → (w : ℕ) × So (bit l.before x w) × So (bit l.writers x w) × (So (bit l.placed 0 w) → ⊥)

abbrev pub decreases-loop-z : goal.decreases-loop-z
decreases-loop-z l = RECORDS - l.z
