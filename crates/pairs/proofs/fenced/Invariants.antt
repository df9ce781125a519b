use mathlib.Core.Path.{◌≡◌}
use mathlib.Core.Bool.{false}
use Rattle.pairs.specs.Kept.{fenced}
use Rattle.pairs.proofs.fenced.Given as goal

abbrev pub invariant-loop-i : goal.invariant-loop-i
invariant-loop-i l = fenced l.t l.x l.i ≡ false
