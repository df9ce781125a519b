use mathlib.Core.Bool.{So}
use Prim.Native.Nat.{◌≤◌}
use Rattle.laws.specs.Tests.{all}
use Rattle.session.specs.Bounds.{PAIRS}
use Rattle.session.specs.Stack.{placed}
use Rattle.session.proofs.calls.stands.Given as goal

abbrev pub invariant-loop-i : goal.invariant-loop-i
invariant-loop-i l = (l.k.count ≤ PAIRS) × So (all l.i (placed l.t l.k))
