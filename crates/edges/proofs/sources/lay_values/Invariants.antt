use mathlib.Core.Path.{◌≡◌}
use Prim.Native.Nat.{ℕ, ◌<◌, ◌≤◌}
use lib.ListN.{length, get_or}
use Rattle.trace.specs.Bounds.{RECORDS}
use Rattle.trace.specs.Op.{written}
use Rattle.trace.specs.Trace.{at}
use Rattle.edges.proofs.sources.lay_values.Given as goal

abbrev pub invariant-loop-x : goal.invariant-loop-x
invariant-loop-x l = (l.x ≤ l.n) × (length l.values ≡ RECORDS) × ((k : ℕ) → k < l.x → get_or l.values k 0 ≡ written (at l.t k))
