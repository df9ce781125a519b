use mathlib.Core.Path.{◌≡◌}
use mathlib.Core.Bool.{false, not, ◌&&◌}
use Rattle.laws.specs.Tests.{any}
use Rattle.trace.specs.Cores.{shows, all_show}
use Rattle.trace.proofs.cores.lost.Given as goal

abbrev pub invariant-loop-i : goal.invariant-loop-i
invariant-loop-i l = (any l.i (λ τ. shows l.t τ && not (all_show l.t τ)) ≡ false) × (l.whole ≡ all_show l.t l.i)
