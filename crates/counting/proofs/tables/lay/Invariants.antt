use Prim.Native.Nat.{◌≤◌}
use Rattle.trace.specs.Meaning.{frame_of}
use Rattle.rows.specs.Bounds.{CELLS}
use Rattle.rows.specs.Empty.{empty_of}
use Rattle.rules.specs.RuleTests.{writer?}
use Rattle.pairs.specs.Kept.{kept_of}
use Rattle.edges.specs.inner.PairSets.{Only, Union}
use Rattle.rows.specs.inner.AddedPairs.{Added}
use Rattle.counting.specs.inner.CountingRows.{owns, feeds?}
use Rattle.counting.proofs.tables.lay.Given as goal

abbrev pub invariant-loop-x : goal.invariant-loop-x
invariant-loop-x l =
    (l.x ≤ l.n)
    × Added (empty_of CELLS) (Union l.x (λ z. Union l.n (λ y. Only (kept_of l.model l.t z y) y z))) l.partners
    × Added (empty_of CELLS) (Union l.x (λ z. Union l.n (λ y. Only (owns (frame_of l.t) z y) y z))) l.own
    × Added (empty_of CELLS) (Union l.x (λ z. Union l.n (λ y. Only (feeds? (frame_of l.t) l.reads l.served z y) z y))) l.fed
    × Added (empty_of CELLS) (Union l.x (λ z. Union l.n (λ y. Only (writer? (frame_of l.t) z y) z y))) l.rivals
