-- `trail::add_rows`: row x has what an edge to a number below m and then a walk leads to, and m is the next edge of x or past the last.
use mathlib.Core.Path.{◌≡◌, ◌∙◌}
use mathlib.Core.Logic.{inl, inr}
use native.Mathlib.Omega.{arith}
use Rattle.trace.specs.Bounds.{RECORDS}
use Rattle.rows.specs.Rows.{Edges}
use Rattle.rows.proofs.Rows.{bit-bounds}
use Rattle.edges.proofs.DrawnEdges.{next-at}
use Rattle.circle.specs.inner.WalkRows.{Widened}
use Rattle.circle.proofs.WalkRows.{Some, added-same}
use Rattle.circle.proofs.Further.{RowsTurn, rows_all, rows-first, rows_next}
use Rattle.circle.proofs.trail.add_rows.Goals as goal

pub loop-m-init : goal.loop-m-init
loop-m-init c =
    let a = c.args in
    let first = c.next-m.ensures in
    (next-at a.edges.now a.x 0 _ first, rows-first a.edges.now a.walks.now a.next.now a.x _ first)

pub add_row-requires : goal.add_row-requires
add_row-requires c = (c.requires.0, c.loop-m.invariant.1.long ∙ c.requires.1)

pub loop-m-preserved : goal.loop-m-preserved
loop-m-preserved c =
    let a = c.args in
    let further = c.next-m-in-loop-m.ensures in
    let here : Edges a.edges.now a.x c.loop-m.m = elim c.loop-m.invariant.0 [ inl e ↦ e | inr e ↦ absurd (omega arith) ] in (
      next-at a.edges.now a.x _ _ further,
      rows_next a.edges.now a.walks.now a.next.now a.x c.loop-m.m _ c.loop-m.next _ (omega arith) here further c.loop-m.invariant.1 c.add_row.ensures,
    )

pub returns : goal.returns
returns c =
    let a = c.args in
    let past : c.loop-m.m ≡ RECORDS = elim c.loop-m.invariant.0 [ inl e ↦ absurd (omega (arith, (bit-bounds a.edges.now a.x c.loop-m.m e).1)) | inr e ↦ e ] in
    let all : Widened a.next.now (Some RECORDS (RowsTurn a.edges.now a.walks.now a.x)) c.loop-m.next = rw past at c.loop-m.invariant.1 in
    added-same a.next.now _ _ c.loop-m.next (rows_all a.edges.now a.walks.now a.x) all
