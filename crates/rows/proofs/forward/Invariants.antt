use Prim.Native.Nat.{ℕ, ◌≤◌, ◌<◌}
use Rattle.rows.specs.Rows.{Edges}
use Rattle.rows.proofs.forward.Given as goal

abbrev pub invariant-loop-x : goal.invariant-loop-x
invariant-loop-x l = (l.x ≤ l.n) × ((i : ℕ) → i < l.x → (y : ℕ) → Edges l.rows i y → i < y)
