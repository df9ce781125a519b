-- `edges::force::draw_settled`: what the loads below `load` are given is drawn.
use mathlib.Core.Path.{◌≡◌}
use native.Mathlib.Omega.{arith}
use lib.ListN.{get_or}
use Rattle.edges.specs.inner.PairSets.{Union}
use Rattle.rows.specs.inner.AddedPairs.{Added}
use Rattle.edges.specs.inner.DrawnEdges.{SettledBy}
use Rattle.edges.proofs.PairSets.{adds-as, union-none, union_more, union-skip}
use Rattle.edges.proofs.force.draw_settled.Goals.{else-source-lt-RECORDS, then-source-lt-RECORDS}
use Rattle.edges.proofs.force.draw_settled.Goals as goal

pub loop-load-init : goal.loop-load-init
loop-load-init c = (omega arith, union-none _ c.args.edges.now)

pub loop-load-preserved : goal.loop-load-preserved
loop-load-preserved c =
    let a = c.args in (
      omega arith,
      (elim c.if-source-lt-RECORDS.branch [
        | then-source-lt-RECORDS w ↦ let done : Added c.loop-load.edges (Union a.n (SettledBy a.writers.now a.chains.now (get_or a.sources.now c.loop-load.load 0) c.loop-load.load)) c.if-source-lt-RECORDS.edges
            = rw w.edges-is w.draw_settled_for.ensures in
            union_more _ c.loop-load.load c.loop-load.invariant.1 (adds-as _ done (λ x y. (λ u. (w.if-source-lt-RECORDS.true, u), λ u. u.1)))
        | else-source-lt-RECORDS w ↦ let e : c.if-source-lt-RECORDS.edges ≡ c.loop-load.edges = w.edges-is in
            rw e (union-skip _ c.loop-load.load c.loop-load.invariant.1 (λ x y u. omega (arith, w.if-source-lt-RECORDS.false, u.0)))
      ]),
    )
