use Prim.Native.Nat.{◌*◌, ◌-◌}
use Rattle.laws.proofs.GrowingTables.{pairs}
use Rattle.trace.specs.Bounds.{RECORDS}
use Rattle.trace.specs.Meaning.{frame_of}
use Rattle.rows.specs.Rows.{bit}
use Rattle.rows.specs.Lent.{lent_of}
use Rattle.edges.specs.Supposed.{supposed_of}
use Rattle.edges.specs.inner.Settling.{SettlingRows}
use Rattle.edges.proofs.force.grow.Given as goal

abbrev pub invariant-loop-t : goal.invariant-loop-t
invariant-loop-t l = SettlingRows (frame_of l.t) (lent_of l.t l.kept) (supposed_of l.t l.supposed) l.edges l.turned

abbrev pub decreases-loop-t : goal.decreases-loop-t
decreases-loop-t l = RECORDS * RECORDS - pairs RECORDS (bit l.edges)
