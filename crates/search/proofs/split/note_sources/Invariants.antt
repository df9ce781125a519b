use mathlib.Core.Path.{◌≡◌}
use Prim.Native.Nat.{◌-◌}
use lib.ListN.{length}
use Rattle.search.proofs.split.note_sources.Given as goal

abbrev pub invariant-loop-load : goal.invariant-loop-load
invariant-loop-load l = length l.read ≡ length l.initial.read

abbrev pub decreases-loop-load : goal.decreases-loop-load
decreases-loop-load l = length l.sources - l.load
