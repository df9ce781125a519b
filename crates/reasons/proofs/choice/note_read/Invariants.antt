use mathlib.Core.Path.{◌≡◌}
use Prim.Native.Nat.{◌≤◌}
use lib.ListN.{length}
use Rattle.trace.specs.Bounds.{RECORDS}
use Rattle.trace.specs.Meaning.{frame_of}
use Rattle.rows.specs.Bounds.{WORDS}
use Rattle.reasons.proofs.Noting.{NotedBelow}
use Rattle.reasons.proofs.choice.note_read.Given as goal

abbrev pub invariant-loop-load : goal.invariant-loop-load
invariant-loop-load l = (l.load ≤ RECORDS) × (length l.read ≡ WORDS) × NotedBelow (frame_of l.t) l.load l.read
