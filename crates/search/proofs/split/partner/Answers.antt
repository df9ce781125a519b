-- `search::split::partner`: whatever is found is in the row of the writers.
use mathlib.Core.Logic.{inl, inr}
use native.Mathlib.Omega.{arith}
use Rattle.search.proofs.Candidates.{next-on, next-at}
use Rattle.search.proofs.split.partner.Goals as goal

pub loop-y-init : goal.loop-y-init
loop-y-init c = next-at _ _ _ c.next-y.ensures

pub returns-then-test-told : goal.returns-then-test-told
returns-then-test-told c = λ h. elim c.loop-y.invariant [ inl t ↦ ((c.rest-others.ensures.has _).0 t).0 | inr e ↦ absurd (omega (arith, h, e)) ]

pub overflow_add-y : goal.overflow_add-y
overflow_add-y c = omega arith

pub loop-y-smaller : goal.loop-y-smaller
loop-y-smaller c = omega (arith, next-on _ c.loop-y.y _ c.next-y-in-loop-y.ensures (omega (arith, c.loop-y-test.true)))

pub loop-y-preserved : goal.loop-y-preserved
loop-y-preserved c = next-at _ _ _ c.next-y-in-loop-y.ensures

pub returns : goal.returns
returns c = λ h. absurd (omega (arith, h))
