-- `rows::within`: the words of the two rows below i agree.
use native.Mathlib.Omega.{arith}
use borrow.Author.Rules.{rules}
use Rattle.laws.proofs.Tests.{yes_iff, no_iff}
use Rattle.rows.proofs.Against.{within-yes, within-no}
use Rattle.rows.proofs.within.Goals as goal

pub returns-then-p-q : goal.returns-then-p-q
returns-then-p-q c = let a = c.args in
    let e₁ = c.word-p.ensures in
    let e₂ = c.word-q.ensures in
    no_iff (within-no a.a.now a.b.now a.x a.y c.loop-i.i (search rules) (λ i. omega (arith, c.type_inv.a i)) (λ i. omega (arith, c.type_inv.b i)) (λ e. c.if-p-q.true (rw (e₁, e₂) e)))

pub returns : goal.returns
returns c = let a = c.args in
    yes_iff (within-yes a.a.now a.b.now a.x a.y (λ i h. c.loop-i.invariant.1 i (omega arith)))
