use mathlib.Core.Bool.{So}
use mathlib.Core.Logic.{◌⊎◌}
use mathlib.Core.Path.{◌≡◌}
use Prim.Native.Nat.{ℕ, ◌<◌, ◌-◌}
use lib.ListN.{length, get_or}
use Rattle.rows.specs.Rows.{bit}
use Rattle.trace.specs.Bounds.{RECORDS}
use Rattle.search.proofs.seek.quiet.Given as goal

abbrev pub invariant-loop-load : goal.invariant-loop-load
invariant-loop-load l = (So (bit l.waiting 0 l.load) ⊎ (l.load ≡ RECORDS)) × ((L : ℕ) → L < l.load → So (bit l.waiting 0 L) → So (bit l.placed 0 (get_or l.sources L 0)) → ⊥)

abbrev pub decreases-loop-load : goal.decreases-loop-load
decreases-loop-load l = length l.sources - l.load
