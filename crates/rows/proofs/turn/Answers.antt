-- `rows::turn`: the squares below c are turned round.
use mathlib.Core.Path.{◌≡◌, ap, ◌∙◌}
use native.Mathlib.Omega.{arith}
use Rattle.rows.specs.Bounds.{CELLS}
use Rattle.rows.specs.Empty.{empty_of}
use Rattle.rows.proofs.Turning.{turning-none, turning-more, turned_round}
use Rattle.rows.proofs.turn.Goals as goal

pub loop-c-init : goal.loop-c-init
loop-c-init c =
    let a = c.args in
    let e : c.clear.new.rows ≡ empty_of CELLS = c.clear.ensures ∙ ap empty_of c.if-out-ne-CELLS.false in
    (omega arith, rw e (turning-none a.rows.now a.n))

pub loop-c-preserved : goal.loop-c-preserved
loop-c-preserved c =
    let a = c.args in
    (omega arith, turning-more a.rows.now a.n c.loop-c.c c.loop-c.out c.loop-c.invariant.1 _ c.turn_part.ensures)

pub returns : goal.returns
returns c =
    let a = c.args in
    turned_round a.rows.now a.n c.loop-c.c c.loop-c.out c.loop-c.invariant.1 a.out.now c.if-out-ne-CELLS.false (omega arith)
