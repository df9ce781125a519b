use mathlib.Core.Bool.{false, So, not, ◌&&◌}
use lib.ListN.{get_or}
use Rattle.laws.specs.Tests.{all}
use Rattle.machine.proofs.running.finished.Given as goal

abbrev pub invariant-loop-i : goal.invariant-loop-i
invariant-loop-i l = So (all l.i (λ x. get_or l.m.ran x false && not (get_or l.m.waits x false)))
