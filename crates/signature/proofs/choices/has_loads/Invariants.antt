use mathlib.Core.Path.{◌≡◌}
use mathlib.Core.Bool.{false}
use Rattle.laws.specs.Tests.{any}
use Rattle.signature.specs.Reads.{reader}
use Rattle.signature.proofs.choices.has_loads.Given as goal

abbrev pub invariant-loop-i : goal.invariant-loop-i
invariant-loop-i l = any l.i (reader l.t l.core) ≡ false
