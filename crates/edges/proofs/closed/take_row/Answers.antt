-- `edges::closed::take_row`: the pairs with what the row has below b are in.
use mathlib.Core.Logic.{inl, inr}
use mathlib.Core.Bool.{So}
use native.Mathlib.Omega.{arith}
use Rattle.rows.specs.Rows.{bit}
use Rattle.edges.proofs.DrawnEdges.{next-on, next-at}
use Rattle.edges.proofs.ClosedTables.{row-none, row_more, row-all}
use Rattle.edges.proofs.closed.take_row.Goals as goal

pub loop-b-init : goal.loop-b-init
loop-b-init c =
    let a = c.args in
    let first = c.next-b.ensures in
    (next-at a.row.now 0 0 _ first, row-none a.a a.row.now a.edges.now a.turned.now _ (λ z h. first.skips z (omega arith) h))

pub loop-b-preserved : goal.loop-b-preserved
loop-b-preserved c =
    let a = c.args in
    let further = c.next-b-in-loop-b.ensures in
    let here : So (bit a.row.now 0 c.loop-b.b) = elim c.loop-b.invariant.0 [ inl h ↦ h | inr e ↦ absurd (omega arith) ] in (
      next-at a.row.now 0 _ _ further,
      row_more a.a a.row.now c.loop-b.b _ here (next-on a.row.now 0 c.loop-b.b _ further (omega arith)) further.skips c.loop-b.invariant.1 c.take.ensures,
    )

pub returns : goal.returns
returns c = row-all _ _ c.loop-b.b (omega arith) c.loop-b.invariant.1
