-- `edges::force::draw_settled_for`: what the records below x give is drawn, and x is noted or past the last.
use mathlib.Core.Path.{◌≡◌}
use mathlib.Core.Logic.{inl, inr}
use mathlib.Core.Bool.{So}
use native.Mathlib.Omega.{arith}
use Rattle.rows.specs.Rows.{bit}
use Rattle.rows.specs.inner.AddedPairs.{Added}
use Rattle.edges.specs.inner.DrawnEdges.{Settled, SettledBy}
use Rattle.edges.proofs.PairSets.{adds_none, adds-as, adds_then, swept_none, swept-more, swept_all}
use Rattle.edges.proofs.DrawnEdges.{settled-by, settled-other, settled-none, next-on, next-at}
use Rattle.edges.proofs.force.draw_settled_for.Goals.{else-x-source, then-x-source}
use Rattle.edges.proofs.force.draw_settled_for.Goals as goal

pub loop-x-init : goal.loop-x-init
loop-x-init c =
    let a = c.args in
    let first = c.next-x.ensures in (
      next-at a.writers.now a.load 0 _ first,
      adds_none a.edges.now _ (swept_none a.n (SettledBy a.writers.now a.chains.now a.source a.load) _ (λ z h. settled-none a.writers.now a.chains.now a.source a.load z (first.skips z (omega arith) h))),
    )

pub loop-x-preserved : goal.loop-x-preserved
loop-x-preserved c =
    let a = c.args in
    let x = c.loop-x.x in
    let further = c.next-x-in-loop-x.ensures in
    let here : So (bit a.writers.now a.load x) = elim c.loop-x.invariant.0 [ inl b ↦ b | inr e ↦ absurd (omega arith) ] in
    let step = swept-more a.n (SettledBy a.writers.now a.chains.now a.source a.load) x _ (omega arith) (next-on a.writers.now a.load x _ further (omega arith))
    (λ z h k. settled-none a.writers.now a.chains.now a.source a.load z (further.skips z (omega arith) k)) in (
      next-at a.writers.now a.load _ _ further,
      (elim c.if-x-source.branch [
        | then-x-source w ↦ let done : Added c.loop-x.edges (Settled a.chains.now a.source a.load x) c.if-x-source.edges = rw w.edges-is w.draw_settled_by.ensures in
            adds_then _ c.loop-x.invariant.1 (settled-by a.writers.now a.chains.now a.source a.load x here w.if-x-source.true done) step
        | else-x-source w ↦ let e : c.if-x-source.edges ≡ c.loop-x.edges = w.edges-is in
            rw e (adds_then _ c.loop-x.invariant.1 (adds_none _ _ (settled-other a.writers.now a.chains.now a.source a.load x w.if-x-source.false)) step)
      ]),
    )

pub returns : goal.returns
returns c =
    let a = c.args in
    adds-as _ c.loop-x.invariant.1 (swept_all a.n (SettledBy a.writers.now a.chains.now a.source a.load) c.loop-x.x (omega arith))
