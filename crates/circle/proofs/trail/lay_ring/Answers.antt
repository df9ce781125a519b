-- `trail::lay_ring`: the rows below x have the edges that join records on circles, the others none.
use mathlib.Core.Path.{◌≡◌, sym, ◌∙◌}
use native.Mathlib.Omega.{arith}
use lib.ListN.{length}
use Rattle.rows.specs.Rows.{Edges}
use Rattle.circle.proofs.Ring.{ring-none, ring-turn, ring-skip, ring-all}
use Rattle.circle.proofs.trail.lay_ring.Goals.{else-test, then-test}
use Rattle.circle.proofs.trail.lay_ring.Goals as goal

pub loop-x-init : goal.loop-x-init
loop-x-init c =
    let e = c.clear.ensures in
    (omega arith, rw e (ring-none c.args.edges.now c.args.chains.now (length c.args.ring.now) c.requires))

pub add_row-requires : goal.add_row-requires
add_row-requires c = (omega arith, c.loop-x.invariant.1.long)

pub loop-x-preserved : goal.loop-x-preserved
loop-x-preserved c =
    let a = c.args in
    let x = c.loop-x.x in (
      omega arith,
      (elim c.if-test.branch [
        | then-test w ↦ let on : Edges a.chains.now x x = sym c.test.ensures ∙ w.if-test.true in
            ring-turn a.edges.now a.chains.now c.off_circles-others.result c.off_circles-others.ensures x c.loop-x.ring _ c.if-test.ring (omega arith) c.loop-x.invariant.1 on w.add_row.ensures (w.ring-is ∙ w.drop_row.ensures)
        | else-test w ↦ let e : c.if-test.ring ≡ c.loop-x.ring = w.ring-is in
            rw e (ring-skip a.edges.now a.chains.now x c.loop-x.ring (sym c.test.ensures ∙ w.if-test.false) c.loop-x.invariant.1)
      ]),
    )

pub returns : goal.returns
returns c = ring-all _ _ c.loop-x.x _ (omega arith) c.loop-x.invariant.1
