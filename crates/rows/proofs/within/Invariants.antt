use mathlib.Core.Path.{◌≡◌}
use Prim.Native.Nat.{ℕ, ◌≤◌, ◌<◌}
use lib.Bits.{bit_or}
use Rattle.rows.specs.Bounds.{WORDS}
use Rattle.rows.specs.Within.{word_of}
use Rattle.rows.proofs.within.Given as goal

abbrev pub invariant-loop-i : goal.invariant-loop-i
invariant-loop-i l = (l.i ≤ WORDS) × ((k : ℕ) → k < l.i → bit_or (word_of l.a l.x k) (word_of l.b l.y k) ≡ word_of l.b l.y k)
