-- `report::put_models`: a line more in each turn.
use mathlib.Core.Path.{◌≡◌, subst}
use Prim.Native.Nat.{ℕ, suc, ◌+◌, ◌-◌}
use native.Mathlib.Omega.{arith}
use Rattle.pairs.specs.Kept.{MODELS}
use Rattle.verdict.specs.VerdictOf.{Told}
use Rattle.verdict.proofs.Numbers.{told-numbers}
use Rattle.report.specs.Report.{line_of}
use Rattle.report.specs.Wrote.{Wrote, WroteLines}
use Rattle.report.proofs.Answered.{listed-none, listed_more}
use Rattle.report.proofs.put_models.Goals as goal

pub loop-model-init : goal.loop-model-init
loop-model-init c = (omega arith, omega arith, listed-none c.args.t c.args.out.now)

pub put_line-at-requires : goal.put_line-at-requires
put_line-at-requires c = let i = c.loop-model.invariant in
    (omega (arith, i.0, i.2.within, i.2.wrote.long, c.requires), c.verdict_of.ensures.fits, told-numbers _ _ c.verdict_of.result c.verdict_of.ensures)

pub loop-model-preserved : goal.loop-model-preserved
loop-model-preserved c = let l = c.loop-model in
    let v = c.verdict_of in
    let p = c.put_line-at in
    let e : l.model ≡ suc (l.model - 1) = omega (arith, l.invariant.0) in
    let more : suc (l.model - 1) ≡ l.model + 1 - 1 = omega (arith, l.invariant.0) in (
      omega arith,
      omega arith,
      subst (λ (m : ℕ). WroteLines c.args.t m c.args.out.now p.new.out p.result) more
          (listed_more c.args.t c.args.out.now (l.model - 1) l.out _ l.at _ v.result l.invariant.2 (subst (λ (m : ℕ). Told c.args.t m v.result) e v.ensures) (subst (λ (m : ℕ). Wrote l.out l.at (line_of m v.result) p.new.out p.result) e p.ensures.0) p.ensures.1),
    )

pub shape_of-out : goal.shape_of-out
shape_of-out c = c.loop-model.invariant.2.wrote.long

pub returns : goal.returns
returns c = let l = c.loop-model in
    let e : l.model - 1 ≡ MODELS = omega (arith, l.invariant.0, l.invariant.1) in
    subst (λ (m : ℕ). WroteLines c.args.t m c.args.out.now l.out l.at) e l.invariant.2
