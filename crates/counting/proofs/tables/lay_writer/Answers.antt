-- `counting::tables::lay_writer`: what record x is to the records below y is laid.
use mathlib.Core.Path.{◌≡◌, ap₂, ◌∙◌}
use mathlib.Core.Bool.{◌&&◌}
use Prim.Native.Nat.{◌<◌}
use native.Mathlib.Omega.{arith}
use Rattle.trace.specs.Bounds.{RECORDS}
use Rattle.edges.proofs.PairSets.{adds-if, adds-only, union-none, union_more}
use Rattle.pairs.proofs.RecordTests.{earlier-by, writer-by}
use Rattle.counting.specs.inner.CountingRows.{owns}
use Rattle.counting.proofs.CountingRows.{feeds-at}
use Rattle.counting.proofs.tables.lay_writer.Goals as goal

pub loop-y-init : goal.loop-y-init
loop-y-init c =
    let a = c.args in
    (omega arith, union-none _ a.own.now, union-none _ a.fed.now, union-none _ a.rivals.now)

pub loop-y-preserved : goal.loop-y-preserved
unfolding owns
loop-y-preserved c =
    let a = c.args in
    let y = c.loop-y.y in
    let below = c.loop-y-test.true in
    let w = c.writer_by-writer.ensures ∙ writer-by a.t a.x y in
    let o = c.earlier_by-earlier.ensures ∙ earlier-by a.t a.x y in
    let f = feeds-at a.t a.reads.now a.served.now a.x y _ _ _ _ _ w c.test.ensures c.read.ensures c.written.ensures c.test-in-loop-y.ensures in
    let small : (a.x < RECORDS) × (y < RECORDS) = (omega (arith, c.requires.0, c.requires.1), omega (arith, below, c.requires.1)) in (
      omega (arith, below),
      union_more _ y c.loop-y.invariant.1 (adds-only _ _ (ap₂ ◌&&◌ w o) (adds-if _ y a.x (c.loop-y.invariant.1.long ∙ c.requires.2) (λ _. (small.1, small.0)) c.put_if.ensures)),
      union_more _ y c.loop-y.invariant.2 (adds-only _ _ f (adds-if _ a.x y (c.loop-y.invariant.2.long ∙ c.requires.3) (λ _. small) c.put_if-in-loop-y.ensures)),
      union_more _ y c.loop-y.invariant.3 (adds-only _ _ w (adds-if _ a.x y (c.loop-y.invariant.3.long ∙ c.requires.4) (λ _. small) c.put_if-in-loop-y-2.ensures)),
    )

pub returns : goal.returns
returns c =
    let n : c.loop-y.y ≡ c.args.t.len = omega arith in record { owned = rw n at c.loop-y.invariant.1; sourced = rw n at c.loop-y.invariant.2; rival = rw n at c.loop-y.invariant.3 }
