-- `rows::next`: from `from` on no number below z is in the row.
use mathlib.Core.Path.{ap}
use Prim.Native.Nat.{ℕ, ◌/◌, ◌%◌, ◌^◌}
use native.Mathlib.Omega.{arith}
use Rattle.rows.specs.Bounds.{WIDTH}
use Rattle.rows.proofs.Nexts.{next_here, next_past}
use Rattle.rows.proofs.next.Goals as goal

pub returns-then-rest-ne0 : goal.returns-then-rest-ne0
returns-then-rest-ne0 c =
    let a = c.args in
    let z = c.loop-z.z in
    next_here a.rows.now (λ i. omega (arith, c.type_inv.rows i)) a.x a.from z c.loop-z.invariant.0 c.loop-z.invariant.1 (omega arith) (c.word.result / 2 ^ (z % WIDTH)) (ap (λ (n : ℕ). n / 2 ^ (z % WIDTH)) c.word.ensures) c.if-rest-ne0.true

pub loop-z-preserved : goal.loop-z-preserved
loop-z-preserved c =
    let a = c.args in
    let z = c.loop-z.z in
    (omega arith, next_past a.rows.now (λ i. omega (arith, c.type_inv.rows i)) a.x a.from z c.loop-z.invariant.0 c.loop-z.invariant.1 (omega arith) (c.word.result / 2 ^ (z % WIDTH)) (ap (λ (n : ℕ). n / 2 ^ (z % WIDTH)) c.word.ensures) c.if-rest-ne0.false)
