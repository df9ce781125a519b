-- `counting::tables::lay_partners`: what record x gives to the rows below y is laid, and it is known whether a fence of x's thread was passed.
use mathlib.Core.Path.{◌≡◌, refl, ◌∙◌}
use native.Mathlib.Omega.{arith}
use Rattle.laws.specs.Tests.{any}
use Rattle.pairs.specs.Kept.{fenced}
use Rattle.edges.proofs.PairSets.{adds-if, adds-only, union-none, union_more}
use Rattle.pairs.proofs.Fences.{fenced-more}
use Rattle.counting.proofs.CountingRows.{kept_at}
use Rattle.counting.proofs.tables.lay_partners.Goals as goal

pub loop-y-init : goal.loop-y-init
unfolding fenced any
loop-y-init c = (omega arith, refl, union-none _ c.args.partners.now)

pub loop-y-preserved : goal.loop-y-preserved
loop-y-preserved c =
    let a = c.args in
    let e = kept_at a.model a.t a.x c.loop-y.y _ _ c.loop-y.invariant.1 c.kept_pair-kept.ensures in
    let d = adds-if _ c.loop-y.y a.x (c.loop-y.invariant.2.long ∙ c.requires.2) (λ _. (omega (arith, c.requires.1, c.loop-y-test.true), omega (arith, c.requires.0, c.requires.1))) c.put_if.ensures in (
      omega arith,
      (cc (fenced-more a.t a.x c.loop-y.y)),
      union_more _ c.loop-y.y c.loop-y.invariant.2 (adds-only _ _ e d),
    )

pub returns : goal.returns
returns c =
    let n : c.loop-y.y ≡ c.args.t.len = omega arith in
    rw n at c.loop-y.invariant.2
