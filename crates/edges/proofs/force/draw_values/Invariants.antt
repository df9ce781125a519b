use mathlib.Core.Path.{◌≡◌}
use Prim.Native.Nat.{ℕ, ◌<◌, ◌≤◌}
use lib.ListN.{get_or}
use Rattle.trace.specs.Meaning.{frame_of}
use Rattle.pairs.specs.SourceOf.{source_of}
use Rattle.edges.specs.inner.DrawnEdges.{Stored, Loaded}
use Rattle.edges.proofs.force.draw_values.Given as goal

abbrev pub invariant-loop-load : goal.invariant-loop-load
invariant-loop-load l = (l.load ≤ l.n) × Loaded (frame_of l.t) l.n l.load l.sources l.initial.writers l.writers l.initial.edges l.edges × ((a : ℕ) → Stored (frame_of l.t) l.stores a) × ((L : ℕ) → L < l.n → get_or l.sources L 0 ≡ source_of (frame_of l.t) L)
