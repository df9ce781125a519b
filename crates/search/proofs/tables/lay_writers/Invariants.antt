use Prim.Native.Nat.{◌≤◌}
use Rattle.trace.specs.Meaning.{frame_of}
use Rattle.rules.specs.RuleTests.{writer?}
use Rattle.search.specs.inner.TablesLaid.{Filling}
use Rattle.search.proofs.tables.lay_writers.Given as goal

abbrev pub invariant-loop-y : goal.invariant-loop-y
invariant-loop-y l = (l.y ≤ l.n) × Filling l.y l.n (writer? (frame_of l.t)) l.writers
