use mathlib.Core.Path.{◌≡◌}
use Prim.Native.Nat.{◌≤◌}
use Rattle.trace.specs.Bounds.{VALUES}
use Rattle.text.specs.Number.{run_at}
use Rattle.text.proofs.Numbers.{run_from}
use Rattle.text.proofs.digits.run_at.Given as goal

abbrev pub invariant-loop-i : goal.invariant-loop-i
invariant-loop-i l = (l.value ≤ VALUES) × (run_from l.line l.i l.value ≡ run_at l.line l.at)
