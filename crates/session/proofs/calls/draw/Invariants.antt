use mathlib.Core.Path.{◌≡◌}
use lib.ListN.{length, drop}
use Rattle.session.specs.Stack.{standing}
use Rattle.session.specs.inner.StackSteps.{drawn}
use Rattle.session.proofs.calls.draw.Given as goal

abbrev pub invariant-loop-i : goal.invariant-loop-i
invariant-loop-i l = (length l.rows ≡ length l.initial.rows) × (drawn (drop l.i (standing l.k)) l.rows ≡ drawn (standing l.k) l.initial.rows)
