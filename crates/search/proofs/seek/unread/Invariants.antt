use mathlib.Core.Bool.{So}
use mathlib.Core.Path.{◌≡◌}
use Prim.Native.Nat.{ℕ, ◌<◌, ◌-◌}
use lib.ListN.{length, get_or}
use Rattle.rows.specs.Rows.{bit}
use Rattle.search.proofs.seek.unread.Given as goal

abbrev pub invariant-loop-load : goal.invariant-loop-load
invariant-loop-load l = (L : ℕ) → L < l.load → So (bit l.waiting 0 L) → get_or l.sources L 0 ≡ l.y → ⊥

abbrev pub decreases-loop-load : goal.decreases-loop-load
decreases-loop-load l = length l.sources - l.load
