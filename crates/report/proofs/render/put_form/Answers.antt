-- `report::render::put_form`: what is written and what is left of the form are the whole.
use mathlib.Core.Path.{◌≡◌, refl, sym, ap, ◌∙◌}
use mathlib.Core.List.{List, ◌++◌, append-nil}
use Prim.Native.Nat.{ℕ, ◌<◌}
use native.Mathlib.Omega.{arith}
use lib.ListN.{length, drop}
use Rattle.report.proofs.Wrote.{wrote_then, wrote_none, wrote_as}
use Rattle.report.proofs.Rendering.{fill_none, fill_more}
use Rattle.report.proofs.render.put_form.Goals as goal

pub loop-b-init : goal.loop-b-init
loop-b-init c = (omega arith, omega arith, omega arith, (_, refl, wrote_none _ _))

pub put_step-end-requires : goal.put_step-end-requires
put_step-end-requires c = let l = c.loop-b in
    let (a, b, d, (x, e, w)) = l.invariant in
    (c.nth.ensures.1, omega (arith, w.long, c.requires.1))

pub past-n-requires : goal.past-n-requires
past-n-requires c = let l = c.loop-b in
    let (a, b, d, (x, e, w)) = l.invariant in
    omega (arith, c.requires.0)

pub loop-b-preserved : goal.loop-b-preserved
loop-b-preserved c = let o = c.put_step-end in
    let v = c.nth in
    let l = c.loop-b in
    let g = c.args in
    let (a, b, d, (x, e, w)) = l.invariant in
    let h : l.b-index < length g.form.now = omega arith in (
      omega arith,
      omega (arith, c.past-n.ensures.1),
      omega (arith, o.ensures.1),
      (
        _,
        fill_more g.form.now g.numbers.now x l.b-index l.n v.result c.past-n.result h v.ensures.0 c.past-n.ensures.0 e,
        wrote_then g.out.now g.at x _ _ _ _ _ w o.ensures.0,
      ),
    )

pub shape_of-out : goal.shape_of-out
shape_of-out c = let (a, b, d, (x, e, w)) = c.loop-b.invariant in w.long

pub returns : goal.returns
returns c = let l = c.loop-b in
    let g = c.args in
    let (a, b, d, (x, e, w)) = l.invariant in
    let h : l.b-index ≡ length g.form.now = omega arith in (
      wrote_as (sym (append-nil x) ∙ ap (λ (r : List ℕ). x ++ r) (sym (fill_none g.form.now (drop l.n g.numbers.now) l.b-index h)) ∙ e) w,
      omega arith,
    )
