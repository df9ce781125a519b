use Prim.Native.Nat.{◌≤◌}
use Rattle.trace.specs.Op.{address}
use Rattle.trace.specs.Trace.{at}
use Rattle.rows.specs.inner.AddedPairs.{Added}
use Rattle.pairs.specs.Kept.{kind_of}
use Rattle.edges.specs.inner.LaterRecords.{Filed}
use Rattle.edges.proofs.kept.note_records.Given as goal

abbrev pub invariant-loop-y : goal.invariant-loop-y
invariant-loop-y l = (l.y ≤ l.n) × Added l.initial.kinds (Filed l.y (λ z. kind_of (at l.t z))) l.kinds × Added l.initial.places (Filed l.y (λ z. address (at l.t z))) l.places
