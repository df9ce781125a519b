use mathlib.Core.Path.{◌≡◌}
use Prim.Native.Nat.{◌≤◌}
use Rattle.trace.specs.Meaning.{frame_of}
use Rattle.edges.specs.inner.DrawnEdges.{reads_first}
use Rattle.counting.specs.inner.CountingRows.{Among}
use Rattle.counting.proofs.CountingRows.{up_to}
use Rattle.counting.proofs.tables.lay_sets.Given as goal

abbrev pub invariant-loop-x : goal.invariant-loop-x
invariant-loop-x l =
    (l.x ≤ l.n) × (l.total ≡ up_to (frame_of l.t) l.x) × (l.total ≤ l.x)
    × Among l.x (frame_of l.t).operation l.operations × Among l.x (frame_of l.t).reads l.reads × Among l.x (reads_first (frame_of l.t)) l.served
