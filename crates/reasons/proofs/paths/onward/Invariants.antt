use mathlib.Core.Path.{◌≡◌}
use mathlib.Core.Bool.{◌&&◌}
use Prim.Native.Nat.{◌≤◌}
use Rattle.laws.specs.Latest.{last_of}
use Rattle.trace.specs.Bounds.{RECORDS}
use Rattle.rows.specs.Rows.{bit}
use Rattle.reasons.proofs.paths.onward.Given as goal

abbrev pub invariant-loop-z : goal.invariant-loop-z
invariant-loop-z l = (l.z ≤ RECORDS) × (l.found ≡ last_of (λ z. bit l.edges l.x z && bit l.chains z l.b) (λ z. z) RECORDS l.z) × (l.found ≤ RECORDS)
