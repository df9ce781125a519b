use mathlib.Core.Bool.{So}
use mathlib.Core.Logic.{◌⊎◌}
use mathlib.Core.Path.{◌≡◌}
use Prim.Native.Nat.{ℕ, ◌-◌}
use lib.ListN.{length}
use Rattle.rows.specs.Bounds.{WORDS}
use Rattle.rows.specs.Rows.{bit}
use Rattle.trace.specs.Bounds.{RECORDS}
use Rattle.search.proofs.refute.late.Given as goal

abbrev pub invariant-loop-z : goal.invariant-loop-z
invariant-loop-z l = (So (bit l.others 0 l.z) ⊎ (l.z ≡ RECORDS)) × (length l.heads ≡ WORDS) × ((x : ℕ) → So (bit l.heads 0 x) → So (bit l.others 0 x) × So (bit l.led x l.source))

abbrev pub decreases-loop-z : goal.decreases-loop-z
decreases-loop-z l = RECORDS - l.z
