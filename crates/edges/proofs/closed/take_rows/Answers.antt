-- `edges::closed::take_rows`: the pairs of the rows below x are in.
use native.Mathlib.Omega.{arith}
use Rattle.rows.specs.Rows.{Words}
use Rattle.edges.proofs.ClosedTables.{rows_none, rows_more, rows_all}
use Rattle.edges.proofs.closed.take_rows.Goals as goal

pub loop-x-init : goal.loop-x-init
loop-x-init c = let a = c.args in (omega arith, λ words. rows_none a.pairs.now words a.edges.now a.turned.now)

pub loop-x-preserved : goal.loop-x-preserved
loop-x-preserved c =
    let a = c.args in
    (omega arith, λ words. rows_more a.pairs.now words c.loop-x.x _ c.rest-row.ensures (c.loop-x.invariant.1 words) c.take_row.ensures)

pub returns : goal.returns
returns c =
    let words : Words c.args.pairs.now = λ i. (c.type_inv.pairs i).fits in
    rows_all c.args.pairs.now words c.args.n c.loop-x.x c.requires.1 (omega arith) (c.loop-x.invariant.1 words)
