use mathlib.Core.Path.{◌≡◌}
use Prim.Native.Nat.{◌-◌}
use lib.ListN.{length}
use Rattle.search.specs.inner.Refutation.{Ranking, Grown}
use Rattle.search.proofs.refute.part.Given as goal

abbrev pub invariant-loop-load : goal.invariant-loop-load
invariant-loop-load l = Grown (Ranking (length l.sources) l.writers l.sources l.placed) l.initial.led l.led × (length l.changed ≡ length l.initial.changed)

abbrev pub decreases-loop-load : goal.decreases-loop-load
decreases-loop-load l = length l.sources - l.load
