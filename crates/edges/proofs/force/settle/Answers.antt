-- `edges::force::settle`: what the loads below `load` are given is taken in.
use mathlib.Core.Path.{◌≡◌}
use native.Mathlib.Omega.{arith}
use lib.ListN.{get_or}
use Rattle.trace.specs.Bounds.{RECORDS}
use Rattle.edges.specs.inner.PairSets.{Union}
use Rattle.edges.specs.inner.DrawnEdges.{SettledBy}
use Rattle.edges.specs.inner.Takes.{Takes, AskWritten}
use Rattle.edges.proofs.Takes.{turns-none, turns_more, turns-skip, load-turn}
use Rattle.edges.proofs.force.settle.Goals.{else-source-lt-RECORDS, then-source-lt-RECORDS}
use Rattle.edges.proofs.force.settle.Goals as goal

pub loop-load-init : goal.loop-load-init
loop-load-init c = let a = c.args in (omega arith, turns-none _ _ a.edges.now a.turned.now)

pub loop-load-preserved : goal.loop-load-preserved
loop-load-preserved c =
    let a = c.args in (
      omega arith,
      (elim c.if-source-lt-RECORDS.branch [
        | then-source-lt-RECORDS w ↦ let done : Takes (AskWritten a.writers.now (get_or a.sources.now c.loop-load.load 0) c.loop-load.load) c.loop-load.edges c.loop-load.turned (Union RECORDS (SettledBy a.writers.now c.loop-load.edges (get_or a.sources.now c.loop-load.load 0) c.loop-load.load)) c.if-source-lt-RECORDS.edges c.if-source-lt-RECORDS.turned
            = rw (w.edges-is, w.turned-is) w.settle_for.ensures in
            turns_more _ _ c.loop-load.load c.loop-load.invariant.1 (load-turn a.n RECORDS a.sources.now a.writers.now a.edges.now c.loop-load.edges _ _ _ c.loop-load.load (omega arith) c.requires.0 c.loop-load.invariant.1.keeps w.if-source-lt-RECORDS.true done)
        | else-source-lt-RECORDS w ↦ let e : c.if-source-lt-RECORDS.edges ≡ c.loop-load.edges = w.edges-is in
            let q : c.if-source-lt-RECORDS.turned ≡ c.loop-load.turned = w.turned-is in
            rw (e, q) (turns-skip _ _ c.loop-load.load c.loop-load.invariant.1 (λ x y u. omega (arith, w.if-source-lt-RECORDS.false, u.0)))
      ]),
    )
