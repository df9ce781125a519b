use mathlib.Core.Bool.{So}
use mathlib.Core.Logic.{◌⊎◌}
use mathlib.Core.Path.{◌≡◌}
use Prim.Native.Nat.{ℕ, ◌<◌, ◌-◌}
use lib.ListN.{get_or}
use Rattle.rows.specs.Rows.{bit}
use Rattle.trace.specs.Bounds.{RECORDS}
use Rattle.edges.proofs.sources.source_in.Given as goal

abbrev pub invariant-loop-z : goal.invariant-loop-z
invariant-loop-z l = (So (bit l.by l.addr l.z) ⊎ (l.z ≡ RECORDS)) × ((x : ℕ) → x < l.z → So (bit l.by l.addr x) → (x ≡ l.load → ⊥) → get_or l.values x 0 ≡ l.value → ⊥)

abbrev pub decreases-loop-z : goal.decreases-loop-z
decreases-loop-z l = RECORDS - l.z
