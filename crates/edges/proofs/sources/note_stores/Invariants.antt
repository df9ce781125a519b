use Prim.Native.Nat.{◌≤◌}
use Rattle.trace.specs.Meaning.{frame_of}
use Rattle.edges.specs.inner.PairSets.{Only, Union}
use Rattle.rows.specs.inner.AddedPairs.{Added}
use Rattle.edges.proofs.sources.note_stores.Given as goal

abbrev pub invariant-loop-x : goal.invariant-loop-x
invariant-loop-x l = (l.x ≤ l.n) × Added l.initial.stores (Union l.x (λ z. Only ((frame_of l.t).writes z) ((frame_of l.t).address z) z)) l.stores
