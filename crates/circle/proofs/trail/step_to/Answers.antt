-- `trail::step_to`: no number below to is one that x has an edge to and that row j has; to is the next edge of x or past the last.
use mathlib.Core.Path.{◌≡◌, sym, ◌∙◌}
use mathlib.Core.Logic.{inl, inr}
use mathlib.Core.Bool.{false≢true}
use native.Mathlib.Omega.{arith}
use Rattle.laws.proofs.Tests.{three}
use Rattle.trace.specs.Bounds.{RECORDS}
use Rattle.rows.proofs.Rows.{bit-bounds}
use Rattle.edges.proofs.DrawnEdges.{next-at}
use Rattle.circle.proofs.Lowest.{lowest-found, lowest-past}
use Rattle.circle.proofs.trail.step_to.Goals as goal

pub loop-to-init : goal.loop-to-init
loop-to-init c =
    let a = c.args in
    let first = c.next-to.ensures in
    (next-at a.edges.now a.x 0 _ first, λ z h t. first.skips z (omega arith) h t.0)

pub returns-then-test : goal.returns-then-test
returns-then-test c =
    let l = c.loop-to in
    lowest-found RECORDS _ l.to (omega arith) l.invariant.1 (elim l.invariant.0 [ inl e ↦ e | inr e ↦ absurd (omega arith) ], sym c.test.ensures ∙ c.if-test.true)

pub loop-to-preserved : goal.loop-to-preserved
loop-to-preserved c =
    let a = c.args in
    let further = c.next-to-in-loop-to.ensures in (
      next-at a.edges.now a.x _ _ further,
      λ z h t. elim (three z c.loop-to.to) [
        | inl p ↦ c.loop-to.invariant.1 z p t
        | inr r ↦ elim r [
          | inl e ↦ false≢true (sym c.if-test.false ∙ c.test.ensures ∙ (rw e at t.1))
          | inr p ↦ further.skips z (omega arith) h t.0
        ]
      ],
    )

pub returns : goal.returns
returns c =
    let a = c.args in
    let past : c.loop-to.to ≡ RECORDS = elim c.loop-to.invariant.0 [ inl e ↦ absurd (omega (arith, (bit-bounds a.edges.now a.x c.loop-to.to e).1)) | inr e ↦ e ] in
    lowest-past RECORDS _ (λ y t. (bit-bounds a.edges.now a.x y t.0).1) c.loop-to.to past c.loop-to.invariant.1
