-- Of the cores that were looked at, none counts for more than one.
use Rattle.std.proofs.Common.{◌≤◌}
use Rattle.shrink.proofs.cores.numbered.Given as goal

abbrev pub invariant-loop-lower : goal.invariant-loop-lower
invariant-loop-lower l = l.count ≤ l.lower
