use mathlib.Core.Path.{◌≡◌}
use Prim.Native.Nat.{◌*◌, ◌-◌, ◌≤◌}
use lib.ListN.{length}
use Rattle.laws.proofs.GrowingTables.{pairs}
use Rattle.trace.specs.Bounds.{RECORDS}
use Rattle.trace.specs.Meaning.{frame_of}
use Rattle.rows.specs.Bounds.{CELLS}
use Rattle.rows.specs.Rows.{bit}
use Rattle.rows.specs.Lent.{lent_of}
use Rattle.edges.specs.Supposed.{supposed_of}
use Rattle.edges.proofs.LastRound.{Stands}
use Rattle.edges.proofs.force.run.Given as goal

abbrev pub invariant-loop-t : goal.invariant-loop-t
invariant-loop-t l = (length l.chains ≡ CELLS) × (Stands (frame_of l.t) (lent_of l.t l.kept) (supposed_of l.t l.supposed) l.number l.before l.edges) × (l.number ≤ pairs RECORDS (bit l.edges))

abbrev pub decreases-loop-t : goal.decreases-loop-t
decreases-loop-t l = RECORDS * RECORDS - pairs RECORDS (bit l.edges)
