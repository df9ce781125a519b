-- `edges::force::draw_values_from`: what the records below x give is drawn, and x is in the row or past the last.
use mathlib.Core.Path.{◌≡◌, sym, ◌∙◌}
use mathlib.Core.Logic.{inl, inr}
use mathlib.Core.Bool.{So}
use Prim.Native.Nat.{◌<◌}
use native.Mathlib.Omega.{arith}
use Rattle.trace.specs.Bounds.{RECORDS}
use Rattle.trace.specs.Meaning.{frame_of}
use Rattle.rows.specs.Rows.{bit}
use Rattle.rows.specs.inner.AddedPairs.{Added}
use Rattle.pairs.proofs.KeptPairs.{earlier-iff}
use Rattle.edges.specs.inner.DrawnEdges.{Passed, PassedBy}
use Rattle.edges.proofs.PairSets.{adds_none, adds-as, adds_then, swept_none, swept-more, swept_all}
use Rattle.edges.proofs.DrawnEdges.{passed-by, passed_none, passed-other, next-on, next-at}
use borrow.Author.Rules.{rules}
use Rattle.edges.proofs.force.draw_values_from.Goals.{else-thread, then-thread}
use Rattle.edges.proofs.force.draw_values_from.Goals as goal

pub loop-x-init : goal.loop-x-init
loop-x-init c =
    let a = c.args in
    let f = frame_of a.t in
    let begin = c.next-x.ensures in (
      next-at a.others.now 0 0 _ begin,
      adds_none a.edges.now _ (swept_none a.load (PassedBy f a.others.now a.early a.source a.load) _ (λ z h. passed_none f a.others.now a.early a.source a.load z (begin.skips z (omega arith) h))),
    )

pub loop-x-preserved : goal.loop-x-preserved
loop-x-preserved c =
    let a = c.args in
    let f = frame_of a.t in
    let x = c.loop-x.x in
    let further = c.next-x-in-loop-x.ensures in
    let small : x < RECORDS = search rules in
    let here : So (bit a.others.now 0 x) = elim c.loop-x.invariant.0 [ inl b ↦ b | inr e ↦ absurd (omega arith) ] in
    let step = swept-more a.load (PassedBy f a.others.now a.early a.source a.load) x _ (omega arith) (next-on a.others.now 0 x _ further small)
    (λ z h k. passed_none f a.others.now a.early a.source a.load z (further.skips z (omega arith) k)) in (
      next-at a.others.now 0 _ _ further,
      (elim c.if-thread.branch [
        | then-thread w ↦ let done : Added c.loop-x.edges (Passed a.early a.source x a.load) c.if-thread.edges = rw w.edges-is w.draw_value.ensures in
            let earlier : So (f.earlier x a.load) = (earlier-iff a.t x a.load).1 (omega arith, sym c.thread.ensures ∙ w.if-thread.true ∙ c.thread-in-loop-x.ensures) in
            adds_then _ c.loop-x.invariant.1 (passed-by f a.others.now a.early a.source a.load x here earlier done) step
        | else-thread w ↦ let e : c.if-thread.edges ≡ c.loop-x.edges = w.edges-is in
            let other : So (f.earlier x a.load) → ⊥ = λ t. w.if-thread.false (c.thread.ensures ∙ ((earlier-iff a.t x a.load).0 t).1 ∙ sym c.thread-in-loop-x.ensures) in
            rw e (adds_then _ c.loop-x.invariant.1 (adds_none _ _ (passed-other f a.others.now a.early a.source a.load x other)) step)
      ]),
    )

pub returns : goal.returns
returns c =
    let a = c.args in
    adds-as _ c.loop-x.invariant.1 (swept_all a.load (PassedBy (frame_of a.t) a.others.now a.early a.source a.load) c.loop-x.x (omega arith))
