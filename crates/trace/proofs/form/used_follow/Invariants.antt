use mathlib.Core.Bool.{So}
use Rattle.laws.specs.Tests.{all}
use Rattle.trace.specs.Trace.{at}
use Rattle.trace.specs.WellFormed.{follows}
use Rattle.trace.specs.inner.Marks.{Marks}
use Rattle.trace.proofs.form.used_follow.Given as goal

abbrev pub invariant-loop-i : goal.invariant-loop-i
invariant-loop-i l = So (all l.i (λ j. follows l.t j (at l.t j))) × Marks l.t l.i l.marks
