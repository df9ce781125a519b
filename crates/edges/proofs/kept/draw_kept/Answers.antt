-- `edges::kept::draw_kept`: the rows from record k on are drawn, and it is known what is later, and behind a fence, from there on.
use mathlib.Core.Path.{◌≡◌, sym, ap, ◌∙◌}
use mathlib.Core.Bool.{So, not}
use Prim.Native.Nat.{◌+◌, ◌-◌}
use native.Mathlib.Omega.{arith}
use lib.ListN.{length}
use Rattle.trace.specs.Op.{fence}
use Rattle.trace.specs.Trace.{at}
use Rattle.trace.specs.Meaning.{frame_of}
use Rattle.trace.proofs.Records.{operation-at}
use Rattle.rows.specs.Bounds.{CELLS}
use Rattle.rows.specs.Empty.{empty_of}
use Rattle.rows.proofs.Whole.{empty-long}
use Rattle.edges.proofs.LaterRecords.{later-none, rows_none, later-fence, behind-fence, rows-fence, later_more, behind_more, rows_more, undrawn}
use Rattle.edges.proofs.kept.draw_kept.Goals as goal

pub loop-x-init : goal.loop-x-init
loop-x-init c =
    let a = c.args in
    let none = later-none a.t (empty_of CELLS) in
    (omega arith, none.0, none.1, rows_none a.t a.elsewhere.now a.there.now a.places.now a.kept.now)

pub draw_kept_from-requires : goal.draw_kept_from-requires
draw_kept_from-requires c =
    let a = c.args in
    let k = c.loop-x.x in
    let next : k ≡ (k - 1) + 1 = omega (arith, c.loop-x-test.true) in
    (omega arith, c.loop-x.invariant.3.long ∙ ap length c.requires.1 ∙ empty-long CELLS, undrawn a.t k (k - 1) next CELLS a.elsewhere.now a.there.now a.places.now a.kept.now _ c.requires.1 c.loop-x.invariant.3)

pub loop-x-preserved-then-fence : goal.loop-x-preserved-then-fence
loop-x-preserved-then-fence c =
    let t = c.args.t in
    let k = c.loop-x.x in
    let now = c.loop-x.invariant in
    let next : k ≡ (k - 1) + 1 = omega arith in
    let is : So (fence (at t (k - 1))) = sym c.fence.ensures ∙ c.if-fence.true in (
      omega arith,
      later-fence t k (k - 1) next is now.1,
      behind-fence t k (k - 1) next is CELLS _ now.1 _ c.thread-thread.ensures (omega (arith, c.thread-thread.type_inv)) now.2 (omega (arith, c.thread-thread.type_inv, now.2.long, empty-long CELLS)) c.add_row.ensures,
      rows-fence t k (k - 1) next is _ _ _ now.3,
    )

pub loop-x-preserved : goal.loop-x-preserved
loop-x-preserved c =
    let t = c.args.t in
    let k = c.loop-x.x in
    let now = c.loop-x.invariant in
    let next : k ≡ (k - 1) + 1 = omega arith in
    let is : So ((frame_of t).operation (k - 1)) = operation-at t (k - 1) (omega arith) ∙ ap not (sym c.fence.ensures ∙ c.if-fence.false) in (
      omega arith,
      later_more t k (k - 1) next is _ c.thread-thread.ensures (omega (arith, c.thread-thread.type_inv)) (omega arith) now.1 (omega (arith, c.thread-thread.type_inv, now.1.long, empty-long CELLS)) c.put.ensures,
      behind_more t k (k - 1) next is now.2,
      rows_more t k (k - 1) next is CELLS _ _ _ _ _ _ now.1 now.2 _ _ _ c.thread-thread.ensures c.kind.ensures c.address.ensures c.off_for-off.ensures.1 now.3 c.draw_kept_from.ensures,
    )
