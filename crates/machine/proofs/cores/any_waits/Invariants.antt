use mathlib.Core.Path.{◌≡◌}
use mathlib.Core.Bool.{false}
use Rattle.laws.specs.Tests.{any}
use Rattle.machine.specs.Machine.{waiting}
use Rattle.machine.proofs.cores.any_waits.Given as goal

abbrev pub invariant-loop-i : goal.invariant-loop-i
invariant-loop-i l = any l.i (waiting l.t l.m l.core) ≡ false
