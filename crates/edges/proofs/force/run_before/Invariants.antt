use mathlib.Core.Path.{◌≡◌}
use Prim.Native.Nat.{◌-◌, ◌≤◌}
use lib.ListN.{length}
use Rattle.trace.specs.Meaning.{frame_of}
use Rattle.rows.specs.Bounds.{CELLS}
use Rattle.rows.specs.Lent.{lent_of}
use Rattle.edges.specs.Supposed.{supposed_of}
use Rattle.edges.proofs.RoundBefore.{Nears}
use Rattle.edges.proofs.force.run_before.Given as goal

abbrev pub invariant-loop-number : goal.invariant-loop-number
invariant-loop-number l = (length l.edges ≡ CELLS) × (length l.chains ≡ CELLS) × (length l.before ≡ CELLS) × (l.number ≤ l.k - 1) × Nears (frame_of l.t) (lent_of l.t l.kept) (supposed_of l.t l.supposed) l.k l.x l.y l.number l.next

abbrev pub decreases-loop-number : goal.decreases-loop-number
decreases-loop-number l = l.k - l.number
