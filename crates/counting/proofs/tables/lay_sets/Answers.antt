-- `counting::tables::lay_sets`: of the records below x the sets are laid, and the operations counted.
use mathlib.Core.Path.{◌≡◌, sym, ap, ◌∙◌}
use mathlib.Core.Bool.{not}
use Prim.Native.Nat.{◌+◌, ◌<◌}
use native.Mathlib.Omega.{arith}
use Rattle.trace.specs.Bounds.{RECORDS}
use Rattle.trace.specs.Trace.{first}
use Rattle.trace.specs.Meaning.{frame_of}
use Rattle.rows.specs.Empty.{empty_of}
use Rattle.edges.specs.inner.DrawnEdges.{reads_first}
use Rattle.edges.proofs.DrawnEdges.{early-at}
use Rattle.trace.proofs.Records.{operation-at, reads_at}
use Rattle.counting.proofs.CountingRows.{among_none, among-more, among-all, up_none, up-yes, up-no, up-all}
use Rattle.counting.proofs.tables.lay_sets.Goals.{else-not-fence, then-not-fence}
use Rattle.counting.proofs.tables.lay_sets.Goals as goal

pub loop-x-init : goal.loop-x-init
loop-x-init c =
    let f = frame_of c.args.t in
    (omega arith, up_none f, omega arith, among_none _ _ (c.clear.ensures ∙ ap empty_of c.requires.1), among_none _ _ (c.clear-2.ensures ∙ ap empty_of c.requires.2), among_none _ _ (c.clear-3.ensures ∙ ap empty_of c.requires.3))

pub loop-x-preserved : goal.loop-x-preserved
loop-x-preserved c =
    let t = c.args.t in
    let f = frame_of t in
    let x = c.loop-x.x in
    let below = c.loop-x-test.true in
    let few : x < RECORDS = omega (arith, below, c.requires.0) in
    let i = c.loop-x.invariant in
    let o = operation-at t x below in
    let a = among-more f.operation x _ _ _ i.3 few (ap not c.fence.ensures ∙ sym o) c.put_if.ensures in
    let b = among-more f.reads x _ _ _ i.4 few (c.reads.ensures ∙ sym (reads_at t x below)) c.put_if-in-loop-x.ensures in
    let d = among-more (reads_first f) x _ _ _ i.5 few (early-at t 0 x below _ _ _ c.reads-in-loop-x.ensures c.read.ensures (c.first-begins.ensures ∙ ap (first t) c.address.ensures)) c.put_if-in-loop-x-2.ensures in
    let e = o ∙ sym (ap not c.fence-in-loop-x.ensures) in
    (elim c.if-not-fence.branch [
      | then-not-fence w ↦ let q : c.if-not-fence.total ≡ c.loop-x.total + 1 = w.total-is in
          (omega arith, omega (arith, q, i.1, up-yes f x (e ∙ ap not w.if-not-fence.true)), omega (arith, q, i.2), a, b, d)
      | else-not-fence w ↦ let q : c.if-not-fence.total ≡ c.loop-x.total = w.total-is in
          (omega arith, omega (arith, q, i.1, up-no f x (e ∙ ap not w.if-not-fence.false)), omega (arith, q, i.2), a, b, d)
    ])

pub returns : goal.returns
returns c =
    let t = c.args.t in
    let i = c.loop-x.invariant in
    let n : c.loop-x.x ≡ t.len = omega (arith, i.0, c.loop-x-test.false) in
    record { total = i.1 ∙ up-all t c.loop-x.x n; operation = among-all _ _ _ _ n i.3; read = among-all _ _ _ _ n i.4; first = among-all _ _ _ _ n i.5 }
