use mathlib.Core.Bool.{So}
use Prim.Native.Nat.{◌≤◌}
use Rattle.trace.specs.WellFormed.{well_formed}
use Rattle.smaller.proofs.Cutting.{Passed}
use Rattle.smaller.proofs.cut.pass.Given as goal

abbrev pub invariant-loop-i : goal.invariant-loop-i
invariant-loop-i l = (l.i ≤ l.n) × ((w : So (well_formed l.t)) → Passed l.t w l.model l.i l.kept)
