-- `smaller::part::picked`: the records of the set below i are picked; there are no more than i, so there is room.
use mathlib.Core.Path.{◌≡◌, sym, ap, ◌∙◌}
use mathlib.Core.Bool.{Bool, cond}
use Prim.Native.Nat.{◌<◌}
use native.Mathlib.Omega.{arith}
use Rattle.trace.specs.Bounds.{RECORDS}
use Rattle.trace.specs.Trace.{at, pushed}
use Rattle.trace.specs.declared.Trace.{Trace}
use Rattle.trace.proofs.Places.{pushed_room}
use Rattle.parts.specs.Picked.{picked_to}
use Rattle.parts.proofs.Alike.{picked_more, picked-few}
use Rattle.smaller.specs.inner.RecordSets.{Chosen}
use Rattle.smaller.proofs.part.picked.Goals.{else-test, then-test}
use Rattle.smaller.proofs.part.picked.Goals as goal

pub loop-i-init : goal.loop-i-init
unfolding picked_to
loop-i-init c = (omega arith, c.begun-part.ensures)

pub offset_bounds-part-at : goal.offset_bounds-part-at
offset_bounds-part-at c = let l = c.loop-i in
    omega (arith, ap (λ (u : Trace). u.len) l.invariant.1, picked-few c.args.t (Chosen c.args.kept.now) l.i, c.requires)

pub bounds-part-at : goal.bounds-part-at
bounds-part-at c = let l = c.loop-i in
    omega (arith, ap (λ (u : Trace). u.len) l.invariant.1, picked-few c.args.t (Chosen c.args.kept.now) l.i, c.requires)

pub overflow_add-part : goal.overflow_add-part
overflow_add-part c = let l = c.loop-i in
    omega (arith, ap (λ (u : Trace). u.len) l.invariant.1, picked-few c.args.t (Chosen c.args.kept.now) l.i, c.requires)

pub loop-i-preserved : goal.loop-i-preserved
loop-i-preserved c = let l = c.loop-i in
    let t = c.args.t in
    let A = Chosen c.args.kept.now in
    let u = picked_to t A l.i in
    let e = c.test.ensures in
    let room : l.part.len < RECORDS = omega (arith, ap (λ (u : Trace). u.len) l.invariant.1, picked-few t A l.i, c.requires) in (
      omega arith,
      (elim c.if-test.branch [ then-test w ↦ w.part-is ∙ sym (pushed_room l.part (at t l.i) room) ∙ ap (λ (u : Trace). pushed u (at t l.i)) l.invariant.1 ∙ sym (picked_more t A l.i ∙ ap (λ (b : Bool). cond b (pushed u (at t l.i)) u) (sym e ∙ w.if-test.true)) | else-test w ↦ w.part-is ∙ l.invariant.1 ∙ sym (picked_more t A l.i ∙ ap (λ (b : Bool). cond b (pushed u (at t l.i)) u) (sym e ∙ w.if-test.false)) ]),
    )

pub returns : goal.returns
returns c = let l = c.loop-i in
    let e : l.i ≡ c.args.t.len = omega arith in
    l.invariant.1 ∙ ap (picked_to c.args.t (Chosen c.args.kept.now)) e
