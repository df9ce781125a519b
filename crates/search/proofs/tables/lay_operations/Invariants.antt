use Prim.Native.Nat.{◌≤◌}
use Rattle.trace.specs.Meaning.{frame_of}
use Rattle.search.proofs.TablesLaid.{Counting}
use Rattle.search.proofs.tables.lay_operations.Given as goal

abbrev pub invariant-loop-x : goal.invariant-loop-x
invariant-loop-x l = (l.x ≤ l.n) × Counting (frame_of l.t) l.x l.operations l.total
