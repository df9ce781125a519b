-- `signature::products::with_digit`: it stays below the product.
use mathlib.Core.Path.{ap}
use Prim.Native.Nat.{ℕ, ◌+◌}
use native.Mathlib.Omega.{arith}
use Rattle.signature.proofs.Loop.{digit-fits, product-less}
use Rattle.signature.proofs.products.with_digit.Goals as goal

pub overflow_mul-result : goal.overflow_mul-result
overflow_mul-result c = let a = c.args in let f = digit-fits a.q a.range a.digit a.word c.requires.0 c.requires.1 in omega (arith, f.1, product-less a.q a.range (omega arith), c.requires.2)

pub overflow_add-result : goal.overflow_add-result
overflow_add-result c = let a = c.args in let f = digit-fits a.q a.range a.digit a.word c.requires.0 c.requires.1 in omega (arith, f.1, product-less a.q a.range (omega arith), c.requires.2)

pub overflow_add-result-2 : goal.overflow_add-result-2
overflow_add-result-2 c = let a = c.args in let f = digit-fits a.q a.range a.digit a.word c.requires.0 c.requires.1 in omega (arith, f.1, product-less a.q a.range (omega arith), c.requires.2)

pub returns : goal.returns
returns c = let a = c.args in let f = digit-fits a.q a.range a.digit a.word c.requires.0 c.requires.1 in (ap (λ (n : ℕ). a.word + n) f.0, omega (arith, f.1, product-less a.q a.range (omega arith)))
