-- `edges::kept::note_records`: the records below y are noted.
use native.Mathlib.Omega.{arith}
use Rattle.trace.specs.Trace.{at}
use Rattle.edges.proofs.LaterRecords.{filed-more, kind-small}
use Rattle.edges.proofs.kept.note_records.Goals as goal

pub loop-y-preserved : goal.loop-y-preserved
loop-y-preserved c =
    let y = c.loop-y.y in
    let now = c.loop-y.invariant in
    let row = kind-small (at c.args.t y) in (
      omega arith,
      filed-more _ y _ c.kind-row.ensures (omega (arith, c.kind-row.type_inv)) (omega arith) now.1 (omega (arith, c.kind-row.ensures, row, now.1.long, c.requires.1)) c.put.ensures,
      filed-more _ y _ c.address-addr.ensures (omega (arith, c.address-addr.type_inv)) (omega arith) now.2 (omega (arith, c.address-addr.type_inv, now.2.long, c.requires.2)) c.put-in-loop-y.ensures,
    )
