-- `search::seek::slot`: a remainder is below its divisor.
use Prim.Native.Nat.{◌≤◌}
use lib.ListN.{length}
use Rattle.search.proofs.seek.slot.Given as goal

abbrev pub invariant-loop-i : goal.invariant-loop-i
invariant-loop-i l = l.i ≤ length l.set
