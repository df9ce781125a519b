use mathlib.Core.Path.{◌≡◌}
use Prim.Native.Nat.{ℕ, ◌<◌, ◌≤◌}
use lib.ListN.{length}
use Rattle.rows.specs.Bounds.{WIDTH}
use Rattle.rows.specs.inner.Squares.{square_bit, part}
use Rattle.rows.proofs.take_square.Given as goal

abbrev pub invariant-loop-i : goal.invariant-loop-i
invariant-loop-i l = (l.i ≤ WIDTH) × (length l.square ≡ WIDTH) × ((x : ℕ) → x < l.i → (j : ℕ) → j < WIDTH → square_bit l.square x j ≡ part l.rows l.n l.p l.q x j)
