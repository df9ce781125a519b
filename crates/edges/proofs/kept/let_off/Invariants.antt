use Prim.Native.Nat.{◌≤◌}
use Rattle.rows.specs.inner.AddedPairs.{Added}
use Rattle.edges.specs.inner.PairSets.{Union}
use Rattle.edges.specs.inner.LaterRecords.{KINDS, OffRow}
use Rattle.edges.proofs.kept.let_off.Given as goal

abbrev pub invariant-loop-first : goal.invariant-loop-first
invariant-loop-first l = (l.first ≤ KINDS) × Added l.initial.off (Union l.first (λ a. Union KINDS (OffRow l.model l.one l.kinds a))) l.off
