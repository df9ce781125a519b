-- `rows::meets`: the words of the two rows below i have no bit in common.
use native.Mathlib.Omega.{arith}
use borrow.Author.Rules.{rules}
use Rattle.laws.proofs.Tests.{yes_iff, no_iff}
use Rattle.rows.proofs.Against.{meets-yes, meets-no}
use Rattle.rows.proofs.meets.Goals as goal

pub returns-then-p-q-ne0 : goal.returns-then-p-q-ne0
returns-then-p-q-ne0 c = let a = c.args in
    let e₁ = c.word-p.ensures in
    let e₂ = c.word-q.ensures in
    yes_iff (meets-yes a.a.now a.b.now a.x a.y c.loop-i.i (search rules) (λ i. omega (arith, c.type_inv.a i)) (λ i. omega (arith, c.type_inv.b i)) (λ e. c.if-p-q-ne0.true (rw (e₁, e₂) e)))

pub returns : goal.returns
returns c = let a = c.args in
    no_iff (meets-no a.a.now a.b.now a.x a.y (λ i h. c.loop-i.invariant.1 i (omega arith)))
