use mathlib.Core.Path.{◌≡◌}
use mathlib.Core.Bool.{false}
use Rattle.trace.specs.WellFormed.{written_before}
use Rattle.trace.proofs.form.written_before.Given as goal

abbrev pub invariant-loop-i : goal.invariant-loop-i
invariant-loop-i l = written_before l.t l.i l.addr l.value ≡ false
