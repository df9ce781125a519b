use Prim.Native.Nat.{◌≤◌}
use Rattle.trace.specs.Meaning.{frame_of}
use Rattle.rules.specs.RuleTests.{writer?}
use Rattle.edges.specs.inner.PairSets.{Only, Union}
use Rattle.rows.specs.inner.AddedPairs.{Added}
use Rattle.counting.specs.inner.CountingRows.{owns, feeds?}
use Rattle.counting.proofs.tables.lay_writer.Given as goal

abbrev pub invariant-loop-y : goal.invariant-loop-y
invariant-loop-y l =
    (l.y ≤ l.n)
    × Added l.initial.own (Union l.y (λ z. Only (owns (frame_of l.t) l.x z) z l.x)) l.own
    × Added l.initial.fed (Union l.y (λ z. Only (feeds? (frame_of l.t) l.reads l.served l.x z) l.x z)) l.fed
    × Added l.initial.rivals (Union l.y (λ z. Only (writer? (frame_of l.t) l.x z) l.x z)) l.rivals
