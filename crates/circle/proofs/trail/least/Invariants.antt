use mathlib.Core.Path.{◌≡◌}
use Prim.Native.Nat.{◌+◌, ◌≤◌, ◌<◌}
use lib.ListN.{length}
use Rattle.trace.specs.Bounds.{RECORDS}
use Rattle.rows.specs.Bounds.{CELLS}
use Rattle.rows.specs.Rows.{Edges}
use Rattle.circle.proofs.LeastWalk.{Trying}
use Rattle.circle.proofs.trail.least.Given as goal

abbrev pub invariant-loop-k : goal.invariant-loop-k
invariant-loop-k l = (0 < l.k) × (l.k ≤ RECORDS + 1) × (length l.walks ≡ CELLS) × (length l.next ≡ CELLS) × Trying (Edges l.edges) l.k l.walks
