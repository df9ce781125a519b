use Prim.Native.Nat.{ℕ, ◌≤◌, ◌<◌}
use Rattle.trace.specs.Bounds.{RECORDS}
use Rattle.rows.specs.Rows.{Edges}
use Rattle.circle.proofs.trail.closed_at.Given as goal

abbrev pub invariant-loop-s : goal.invariant-loop-s
invariant-loop-s l = (l.s ≤ RECORDS) × ((y : ℕ) → y < l.s → Edges l.walks y y → ⊥)
