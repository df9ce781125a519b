use Prim.Native.Nat.{◌≤◌}
use Rattle.rows.specs.inner.AddedPairs.{Added}
use Rattle.edges.specs.inner.PairSets.{Union}
use Rattle.edges.specs.inner.LaterRecords.{KINDS, OffRow}
use Rattle.edges.proofs.kept.let_off_from.Given as goal

abbrev pub invariant-loop-second : goal.invariant-loop-second
invariant-loop-second l = (l.second ≤ KINDS) × Added l.initial.off (Union l.second (OffRow l.model l.one l.kinds l.first)) l.off
