use mathlib.Core.Path.{◌≡◌}
use mathlib.Core.Logic.{◌↔◌}
use mathlib.Core.List.{[], ◌∷◌}
use Prim.Native.Nat.{◌-◌, ◌≤◌}
use lib.ListN.{length, drop}
use Rattle.trace.specs.Meaning.{frame_of}
use Rattle.pairs.specs.Kept.{kept_of}
use Rattle.papers.specs.Paper.{BRANCH}
use Rattle.papers.specs.inner.ReaderBranch.{goals_of}
use Rattle.papers.specs.Accepts.{PaperShows}
use Rattle.papers.proofs.reading.closing.Given as goal

abbrev pub invariant-loop-at : goal.invariant-loop-at
invariant-loop-at l =
    (PaperShows (frame_of l.t) (kept_of l.model l.t) ([] ∷ []) l.list ↔ PaperShows (frame_of l.t) (kept_of l.model l.t) (goals_of l.from l.to l.other l.count) (drop l.at l.list))
    × (l.at ≤ length l.list) × (l.count ≤ BRANCH) × (length l.from ≡ BRANCH) × (length l.to ≡ BRANCH) × (length l.other ≡ BRANCH)

abbrev pub decreases-loop-at : goal.decreases-loop-at
decreases-loop-at l = length l.list - l.at
