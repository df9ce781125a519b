-- `signature::products::left_above`: nothing is left above 2 to the 64th.
use mathlib.Core.Path.{sym, ap}
use Prim.Native.Nat.{ℕ, ◌/◌}
use native.Mathlib.Nat.{div-eq_of_lt}
use native.Mathlib.Numerals.{add-one}
use native.Mathlib.Omega.{arith}
use Rattle.signature.proofs.products.left_above.Goals as goal

pub returns-then-q-eq-MAX : goal.returns-then-q-eq-MAX
returns-then-q-eq-MAX c = sym (div-eq_of_lt (omega (arith, c.if-q-eq-MAX.true)))

pub returns : goal.returns
returns c = let a = c.args in ap (λ (n : ℕ). a.word / n) (add-one a.q)
