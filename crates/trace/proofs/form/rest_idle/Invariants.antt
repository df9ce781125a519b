use mathlib.Core.Bool.{So}
use Prim.Native.Nat.{◌≤◌}
use lib.Dec.{leb}
use Rattle.laws.specs.Tests.{◌⇒◌, all}
use Rattle.trace.specs.Trace.{at}
use Rattle.trace.specs.WellFormed.{is_idle}
use Rattle.trace.proofs.form.rest_idle.Given as goal

abbrev pub invariant-loop-i : goal.invariant-loop-i
invariant-loop-i l = (l.t.len ≤ l.i) × So (all l.i (λ j. leb l.t.len j ⇒ is_idle (at l.t j)))
