use mathlib.Core.Path.{◌≡◌}
use Prim.Native.Nat.{ℕ, ◌≤◌, ◌<◌}
use lib.ListN.{length, get_or}
use Rattle.trace.specs.Bounds.{RECORDS}
use Rattle.rows.specs.Rows.{Edges}
use Rattle.circle.proofs.Tracing.{Tracing}
use Rattle.circle.proofs.trail.follow.Given as goal

abbrev pub invariant-loop-i : goal.invariant-loop-i
invariant-loop-i l = (0 < l.i) × (l.i ≤ l.k) × (l.x < RECORDS) × (length l.out ≡ length l.initial.out) × ((p : ℕ) → l.k ≤ p → get_or l.out p 0 ≡ get_or l.initial.out p 0) × Tracing (Edges l.edges) l.k l.s l.i l.x l.out
