-- `report::render::put_records`: the lines of the first i records are written.
use mathlib.Core.Path.{◌≡◌, sym, ap, ◌∙◌}
use Prim.Native.Nat.{ℕ}
use native.Mathlib.Omega.{arith}
use lib.ListN.{length, take}
use Rattle.trace.specs.Bounds.{RECORDS}
use Rattle.reader.specs.TextOf.{render_records}
use Rattle.report.proofs.Wrote.{wrote_then, wrote_none, wrote_as}
use Rattle.report.proofs.Rendering.{records-more}
use Rattle.report.proofs.render.put_records.Goals.{Start}
use Rattle.report.proofs.render.put_records.Goals as goal

full : (c : Start) → length c.args.t.records ≡ RECORDS
full c = c.well_formed.0.1.1.0.1.0.1

pub loop-i-init : goal.loop-i-init
unfolding render_records
loop-i-init c = (omega arith, omega arith, wrote_none _ _)

pub put_record-end-requires : goal.put_record-end-requires
put_record-end-requires c = let l = c.loop-i in
    omega (arith, l.invariant.2.long, c.requires.0, c.requires.1, c.held-n.ensures.0)

pub loop-i-preserved : goal.loop-i-preserved
loop-i-preserved c = let p = c.put_record-end in
    let l = c.loop-i in
    let h = c.held-n in
    let n = full (goal.at.loop-i-preserved c).Start in (
      omega arith,
      omega (arith, p.ensures.1),
      wrote_as (sym (records-more c.args.t.records l.i (omega (arith, h.ensures.0)))) (wrote_then c.args.out.now c.args.at _ _ _ _ _ _ l.invariant.2 p.ensures.0),
    )

pub shape_of-out : goal.shape_of-out
shape_of-out c = c.loop-i.invariant.2.long

pub returns : goal.returns
returns c = let l = c.loop-i in
    let h = c.held-n in
    let e : l.i ≡ h.result = omega arith in
    (wrote_as (ap render_records (ap (λ (k : ℕ). take k c.args.t.records) e ∙ h.ensures.1)) l.invariant.2, omega (arith, h.ensures.0, c.requires.1))
