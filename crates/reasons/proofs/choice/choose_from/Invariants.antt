use mathlib.Core.List.{List}
use Prim.Native.Nat.{◌<◌, ◌≤◌}
use Rattle.trace.specs.Meaning.{frame_of}
use Rattle.pairs.specs.Kept.{kept_of}
use Rattle.papers.specs.Paper.{Claim}
use Rattle.reasons.specs.inner.Choice.{BOTH, rank_of, Known, Best}
use Rattle.reasons.proofs.choice.choose_from.Given as goal

abbrev pub invariant-loop-y : goal.invariant-loop-y
invariant-loop-y l = (l.x < l.y) × (l.best.rank ≤ BOTH) × ((E : List Claim) → Known l.t l.model E l.supposed l.read l.held → Best l.t.len (rank_of (frame_of l.t) (kept_of l.model l.t) E) l.x 0 l.initial.best → Best l.t.len (rank_of (frame_of l.t) (kept_of l.model l.t) E) l.x l.y l.best)
