use mathlib.Core.Path.{◌≡◌}
use Prim.Native.Nat.{◌≤◌}
use Rattle.parts.specs.Picked.{picked_to}
use Rattle.smaller.specs.inner.RecordSets.{Chosen}
use Rattle.smaller.proofs.part.picked.Given as goal

abbrev pub invariant-loop-i : goal.invariant-loop-i
invariant-loop-i l = (l.i ≤ l.n) × (l.part ≡ picked_to l.t (Chosen l.kept) l.i)
