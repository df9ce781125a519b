use mathlib.Core.Path.{◌≡◌}
use Prim.Native.Nat.{◌≤◌}
use lib.ListN.{length}
use Rattle.trace.specs.Padded.{padded}
use Rattle.parts.specs.Picked.{olds_to}
use Rattle.smaller.specs.inner.RecordSets.{Chosen}
use Rattle.smaller.proofs.part.olds.Given as goal

abbrev pub invariant-loop-i : goal.invariant-loop-i
invariant-loop-i l = (l.i ≤ l.n) × (l.at ≡ length (olds_to (Chosen l.kept) l.i)) × (l.list ≡ padded (olds_to (Chosen l.kept) l.i))
