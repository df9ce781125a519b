use mathlib.Core.Path.{◌≡◌}
use mathlib.Core.Bool.{cond}
use Prim.Native.Nat.{◌≤◌}
use Rattle.laws.specs.Sums.{sum}
use Rattle.trace.specs.Meaning.{frame_of}
use Rattle.judge.proofs.judging.operations.Given as goal

abbrev pub invariant-loop-x : goal.invariant-loop-x
invariant-loop-x l = (l.x ≤ l.n) × (l.total ≤ l.x) × (l.total ≡ sum l.x (λ y. cond ((frame_of l.t).operation y) 1 0))
