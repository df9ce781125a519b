-- `edges::closed::spread`: the rows below x that `heads` has were given the row.
use mathlib.Core.Path.{◌∙◌}
use mathlib.Core.Logic.{inl, inr}
use mathlib.Core.Bool.{So}
use native.Mathlib.Omega.{arith}
use Rattle.rows.specs.Rows.{bit}
use Rattle.rows.proofs.Rows.{bit-bounds}
use Rattle.edges.proofs.PairSets.{adds-as}
use Rattle.edges.proofs.DrawnEdges.{next-on, next-at}
use Rattle.edges.proofs.ClosedTables.{spread-more}
use Rattle.edges.proofs.closed.spread.Goals as goal

pub loop-x-preserved : goal.loop-x-preserved
loop-x-preserved c =
    let a = c.args in
    let x = c.loop-x.x in
    let further = c.next-x-in-loop-x.ensures in
    let here : So (bit a.heads.now 0 x) = elim c.loop-x.invariant.0 [ inl b ↦ b | inr e ↦ absurd (omega arith) ] in (
      next-at a.heads.now 0 _ _ further,
      spread-more a.heads.now a.row.now _ x _ (λ i. (c.type_inv.row i).fits) (c.loop-x.invariant.1.long ∙ c.requires) (omega arith) here (next-on a.heads.now 0 x _ further (omega arith)) further.skips c.loop-x.invariant.1 c.add_row.ensures,
    )

pub returns : goal.returns
returns c =
    adds-as _ c.loop-x.invariant.1 (λ i j. (λ u. u.1, λ u. (omega (arith, (bit-bounds _ 0 i u.0).1), u)))
