use mathlib.Core.List.{List}
use Prim.Native.Nat.{◌≤◌}
use Rattle.trace.specs.Meaning.{frame_of}
use Rattle.pairs.specs.Kept.{kept_of}
use Rattle.papers.specs.Paper.{Claim}
use Rattle.reasons.specs.inner.Choice.{BOTH, rank_of, Known, Best}
use Rattle.reasons.proofs.choice.choose.Given as goal

abbrev pub invariant-loop-x : goal.invariant-loop-x
invariant-loop-x l = (l.x ≤ l.n) × (l.best.rank ≤ BOTH) × ((E : List Claim) → Known l.t l.model E l.supposed l.read l.held → Best l.t.len (rank_of (frame_of l.t) (kept_of l.model l.t) E) l.x 0 l.best)
