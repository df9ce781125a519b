use Prim.Native.Nat.{◌≤◌}
use Rattle.search.specs.inner.TablesLaid.{reader?, Filling}
use Rattle.trace.specs.Meaning.{frame_of}
use Rattle.search.proofs.tables.lay_readers.Given as goal

abbrev pub invariant-loop-y : goal.invariant-loop-y
invariant-loop-y l = (l.y ≤ l.n) × Filling l.y l.n (reader? (frame_of l.t)) l.readers
