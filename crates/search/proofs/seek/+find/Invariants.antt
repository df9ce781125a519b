use mathlib.Core.Path.{◌≡◌}
use mathlib.Core.Logic.{◌⊎◌}
use mathlib.Core.Bool.{So}
use Prim.Native.Nat.{◌<◌, ◌-◌}
use lib.ListN.{length}
use Rattle.trace.specs.Bounds.{RECORDS}
use Rattle.rows.specs.Rows.{bit}
use Rattle.search.specs.inner.SearchTables.{tables}
use Rattle.search.specs.inner.SearchBelow.{Trying}
use Rattle.search.proofs.seek.+find.Given as goal

abbrev pub decreases-find : goal.decreases-find
decreases-find l = length l.list.now - l.k

abbrev pub invariant-loop-y : goal.invariant-loop-y
invariant-loop-y l = Trying (tables (length l.sources) (length l.initial.list) l.operations l.before l.writers l.readers l.sources) l.initial.list l.k l.placed l.initial.dead l.y l.failed l.list l.dead × (0 < l.cost) × (So (bit l.left 0 l.y) ⊎ (l.y ≡ RECORDS))

abbrev pub decreases-loop-y : goal.decreases-loop-y
decreases-loop-y l = length l.sources - l.y
