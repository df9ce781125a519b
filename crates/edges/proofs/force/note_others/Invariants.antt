use mathlib.Core.Bool.{not}
use Prim.Native.Nat.{◌≤◌}
use Rattle.trace.specs.Bounds.{RECORDS}
use Rattle.trace.specs.Meaning.{frame_of}
use Rattle.edges.specs.inner.PairSets.{Only, Union}
use Rattle.rows.specs.inner.AddedPairs.{Added}
use Rattle.edges.proofs.force.note_others.Given as goal

abbrev pub invariant-loop-y : goal.invariant-loop-y
invariant-loop-y l = (l.y ≤ RECORDS) × Added l.initial.others (Union l.y (λ z. Only (not ((frame_of l.t).operation z)) 0 z)) l.others
