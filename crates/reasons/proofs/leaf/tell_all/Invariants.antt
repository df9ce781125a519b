use mathlib.Core.Path.{◌≡◌}
use Prim.Native.Nat.{◌≤◌, ◌<◌}
use lib.ListN.{length}
use Rattle.trace.specs.Meaning.{frame_of}
use Rattle.pairs.specs.Kept.{kept_of}
use Rattle.edges.specs.Supposed.{supposed_of}
use Rattle.reasons.specs.Telling.{tell}
use Rattle.reasons.proofs.Along.{Along}
use Rattle.reasons.proofs.leaf.tell_all.Given as goal

abbrev pub invariant-loop-i : goal.invariant-loop-i
invariant-loop-i l = (l.i ≤ l.len) × (l.x < 65536) × (length l.from ≡ length l.initial.from) × (length l.to ≡ length l.initial.to) × (length l.out ≡ length l.initial.out) × Along l.limit l.initial.from l.initial.to l.initial.out l.count l.at (tell (frame_of l.t) (kept_of l.model l.t) (supposed_of l.t l.supposed) l.k) l.a l.steps l.len l.b l.i l.x l.from l.to l.out l.n l.p
