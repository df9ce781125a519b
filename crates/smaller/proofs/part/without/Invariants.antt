use mathlib.Core.Path.{◌≡◌}
use mathlib.Core.Bool.{false, not, ◌&&◌, ◌||◌}
use Prim.Native.Nat.{ℕ, ◌≤◌, ◌<◌}
use lib.Dec.{eqb}
use lib.ListN.{length}
use Rattle.rows.specs.Bounds.{WORDS}
use Rattle.rows.specs.Rows.{bit}
use Rattle.smaller.specs.inner.RecordSets.{Chosen}
use Rattle.smaller.proofs.part.without.Given as goal

abbrev pub invariant-loop-x : goal.invariant-loop-x
invariant-loop-x l = (l.x ≤ l.n) × (length l.left ≡ WORDS) × ((y : ℕ) → y < l.x → Chosen l.left y ≡ (Chosen l.kept y && not (eqb l.i y || bit l.goes l.i y))) × ((y : ℕ) → l.x ≤ y → Chosen l.left y ≡ false)
