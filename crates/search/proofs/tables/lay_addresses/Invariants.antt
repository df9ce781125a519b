use Prim.Native.Nat.{◌≤◌}
use Rattle.search.specs.inner.TablesLaid.{Addressed}
use Rattle.search.proofs.tables.lay_addresses.Given as goal

abbrev pub invariant-loop-x : goal.invariant-loop-x
invariant-loop-x l = (l.x ≤ l.n) × Addressed l.t l.all l.x l.by
