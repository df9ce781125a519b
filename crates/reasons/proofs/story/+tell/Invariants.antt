use mathlib.Core.Path.{◌≡◌}
use Prim.Native.Nat.{◌≤◌}
use lib.ListN.{length}
use Rattle.trace.specs.Meaning.{frame_of}
use Rattle.pairs.specs.Kept.{kept_of}
use Rattle.edges.specs.Supposed.{supposed_of}
use Rattle.papers.specs.Paper.{BRANCH}
use Rattle.reasons.specs.Telling.{tell as telling}
use Rattle.reasons.proofs.Along.{Along}
use Prim.Native.Nat.{◌<◌}
use Rattle.reasons.proofs.story.+tell.Given as goal

abbrev pub decreases-tell : goal.decreases-tell
decreases-tell l = l.k

abbrev pub invariant-loop-i : goal.invariant-loop-i
invariant-loop-i l =
    Along l.limit l.initial.from l.initial.to l.initial.out l.count l.at (telling (frame_of l.t) (kept_of l.model l.t) (supposed_of l.t l.supposed) l.chain.number) l.chain.from l.steps l.chain.len l.chain.to l.i l.z l.from l.to l.out l.n l.w
    × (l.i ≤ l.chain.len) × (l.z < 65536) × (length l.from ≡ BRANCH) × (length l.to ≡ BRANCH) × (length l.out ≡ length l.initial.out)
