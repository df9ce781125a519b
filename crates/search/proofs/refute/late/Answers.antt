-- `search::refute::late`: those put so far are others that come after the source.
use mathlib.Core.Bool.{So, false≢true}
use mathlib.Core.Logic.{inl, inr}
use mathlib.Core.Path.{refl, sym, ◌∙◌}
use native.Mathlib.Omega.{arith}
use Rattle.laws.proofs.Tests.{and-iff, same-iff, so-not}
use Rattle.rows.proofs.Whole.{empty-bit}
use Rattle.rows.specs.Bounds.{WORDS}
use Rattle.rows.specs.Rows.{bit}
use Rattle.search.proofs.Candidates.{next-on, next-at}
use Rattle.search.proofs.Refutation.{put_some}
use Rattle.search.proofs.refute.late.Goals as goal

pub loop-z-init : goal.loop-z-init
loop-z-init c = (next-at c.args.others.now 0 _ c.next-z.ensures, refl, λ x t. absurd (false≢true (sym (empty-bit WORDS 0 x) ∙ t)))

pub slice_bounds-put_if-end : goal.slice_bounds-put_if-end
slice_bounds-put_if-end c = sym c.loop-z.invariant.1

pub overflow_add-z : goal.overflow_add-z
overflow_add-z c = omega arith

pub loop-z-smaller : goal.loop-z-smaller
loop-z-smaller c = omega (arith, next-on c.args.others.now c.loop-z.z _ c.next-z-in-loop-z.ensures (omega (arith, c.loop-z-test.true)))

pub loop-z-preserved : goal.loop-z-preserved
loop-z-preserved c = let a = c.args in
    let here : So (bit a.others.now 0 c.loop-z.z) = elim c.loop-z.invariant.0 [ inl t ↦ t | inr e ↦ absurd (omega (arith, c.loop-z-test.true)) ] in
    let one = put_some c.loop-z.heads _ _ c.loop-z.z c.loop-z.invariant.1 (omega (arith, c.loop-z-test.true)) c.put_if.ensures
    (λ t. (here, sym c.test.ensures ∙ ((and-iff (same-iff {a = c.test.result}) (so-not {b = c.test-in-loop-z.result})).0 t).0)) c.loop-z.invariant.2 in
    (next-at a.others.now _ _ c.next-z-in-loop-z.ensures, one.0, one.1)

pub returns : goal.returns
returns c = c.loop-z.invariant.2
