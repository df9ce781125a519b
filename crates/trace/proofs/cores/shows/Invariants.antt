use mathlib.Core.Path.{◌≡◌}
use mathlib.Core.Bool.{false}
use lib.Dec.{eqb}
use Rattle.laws.specs.Tests.{any}
use Rattle.trace.specs.Op.{thread}
use Rattle.trace.specs.Trace.{at}
use Rattle.trace.proofs.cores.shows.Given as goal

abbrev pub invariant-loop-i : goal.invariant-loop-i
invariant-loop-i l = any l.i (λ x. eqb (thread (at l.t x)) l.thread) ≡ false
