-- `report::render::put_inits`: what is written and the init lines of the addresses that are left are the whole.
use mathlib.Core.Path.{◌≡◌, refl, sym, ap, ◌∙◌, subst}
use mathlib.Core.List.{List, ◌++◌, append-nil}
use Prim.Native.Nat.{ℕ, suc, ◌+◌, ◌-◌}
use native.Mathlib.Omega.{arith}
use Rattle.trace.specs.Bounds.{ADDRESSES}
use Rattle.reader.specs.TextOf.{render_inits, inits_from, inits_of}
use Rattle.report.proofs.Wrote.{wrote_then, wrote_none, wrote_as}
use Rattle.report.proofs.Rendering.{inits-none, inits-more}
use Rattle.report.proofs.render.put_inits.Goals as goal

pub loop-addr-init : goal.loop-addr-init
loop-addr-init c = (omega arith, omega arith, (_, refl, wrote_none _ _))

pub put_init-end-requires : goal.put_init-end-requires
put_init-end-requires c = let l = c.loop-addr in
    let (a, b, (x, e, w)) = l.invariant in
    omega (arith, w.long, c.requires)

pub loop-addr-preserved : goal.loop-addr-preserved
loop-addr-preserved c = let p = c.put_init-end in
    let v = c.first in
    let l = c.loop-addr in
    let (a, b, (x, e, w)) = l.invariant in
    let k : ADDRESSES - l.addr ≡ suc (ADDRESSES - (l.addr + 1)) = omega arith in (
      omega arith,
      omega (arith, p.ensures.1),
      (
        _,
        inits-more c.args.t (render_inits (inits_of c.args.t)) x l.addr (ADDRESSES - (l.addr + 1)) v.result v.ensures
            (subst (λ (k : ℕ). x ++ render_inits (inits_from c.args.t l.addr k) ≡ render_inits (inits_of c.args.t)) k e),
        wrote_then c.args.out.now 0 x _ _ _ _ _ w p.ensures.0,
      ),
    )

pub shape_of-out : goal.shape_of-out
shape_of-out c = let (a, b, (x, e, w)) = c.loop-addr.invariant in w.long

pub returns : goal.returns
returns c = let l = c.loop-addr in
    let (a, b, (x, e, w)) = l.invariant in
    let h : ADDRESSES - l.addr ≡ 0 = omega arith in (
      wrote_as (sym (append-nil x) ∙ ap (λ (r : List ℕ). x ++ r) (sym (inits-none c.args.t l.addr (ADDRESSES - l.addr) h)) ∙ e) w,
      omega arith,
    )
