use Prim.Native.Nat.{◌-◌, ◌≤◌}
use lib.ListN.{length}
use Rattle.search.proofs.split.divided.Given as goal

abbrev pub invariant-loop-x : goal.invariant-loop-x
invariant-loop-x l = l.tries ≤ l.x

abbrev pub decreases-loop-x : goal.decreases-loop-x
decreases-loop-x l = length l.sources - l.x
