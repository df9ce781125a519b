-- `packed::packing::many_of`: those below a are counted.
use mathlib.Core.Path.{◌≡◌, refl, sym, ap, ◌∙◌}
use Prim.Native.Nat.{ℕ, ◌+◌}
use native.Mathlib.Omega.{arith}
use lib.ListN.{length, take}
use lib.Seq.{take_all}
use Rattle.trace.specs.Bounds.{ADDRESSES}
use Rattle.packed.specs.Layout.{many}
use Rattle.packed.proofs.FileLaid.{many-zero, many-other}
use Rattle.packed.proofs.packing.many_of.Goals.{Start, else-t-a-ne0, then-t-a-ne0}
use Rattle.packed.proofs.packing.many_of.Goals as goal

-- the array has all its places, which is told by owning it
full : (c : Start) → length c.args.t.firsts ≡ ADDRESSES
full c = c.well_formed.0.1.1.1.1.0.1.0.1

pub loop-a-init : goal.loop-a-init
unfolding many
loop-a-init c = (omega arith, omega arith, refl)

pub loop-a-preserved : goal.loop-a-preserved
loop-a-preserved c =
    let vs = c.args.t.firsts in
    let h = full (goal.at.loop-a-preserved c).Start in (
      omega arith,
      (elim c.if-t-a-ne0.branch [ then-t-a-ne0 w ↦ omega (arith, w.n-is) | else-t-a-ne0 w ↦ omega (arith, w.n-is) ]),
      (elim c.if-t-a-ne0.branch [ then-t-a-ne0 w ↦ w.n-is ∙ ap (λ (k : ℕ). k + 1) c.loop-a.invariant.2 ∙ sym (many-other vs c.loop-a.a (omega arith) w.if-t-a-ne0.true) | else-t-a-ne0 w ↦ w.n-is ∙ c.loop-a.invariant.2 ∙ sym (many-zero vs c.loop-a.a (omega arith) w.if-t-a-ne0.false) ]),
    )

pub returns : goal.returns
returns c =
    let e : c.loop-a.a ≡ ADDRESSES = omega arith in
    (c.loop-a.invariant.2 ∙ ap many (ap (λ (k : ℕ). take k c.args.t.firsts) e ∙ take_all ADDRESSES c.args.t.firsts (omega (arith, full (goal.at.returns c).Start))), omega arith)
