-- `night::blocks::lay`: the first i operations and rules stand in their places; then the front.
use mathlib.Core.Path.{◌≡◌, sym, ap, ◌∙◌, subst}
use Prim.Native.Nat.{ℕ, ◌+◌}
use native.Mathlib.Omega.{arith}
use lib.ListN.{length, get_or, set, length-set}
use Rattle.trace.specs.Bounds.{RECORDS}
use Rattle.night.specs.Block.{BLOCK, kind_in, block_in}
use Rattle.night.proofs.Block.{Laid, laid-start, laid_more, laid_end}
use Rattle.night.proofs.blocks.lay.Goals.{After-struct_known-1}
use Rattle.night.proofs.blocks.lay.Goals as goal

pub loop-i-init : goal.loop-i-init
loop-i-init c = (omega arith, laid-start _ _ _ c.requires.1)

pub bounds-out-i : goal.bounds-out-i
bounds-out-i c = omega (arith, c.loop-i.invariant.1.long)

pub bounds-out-i-in-loop-i : goal.bounds-out-i-in-loop-i
bounds-out-i-in-loop-i c = omega (arith, c.loop-i.invariant.1.long, length-set c.loop-i.out (2 + c.loop-i.i) (get_or c.args.v.operations c.loop-i.i 0))

pub loop-i-preserved : goal.loop-i-preserved
loop-i-preserved c =
    let a = c.args in
    let i = c.loop-i.i in (
      omega arith,
      subst (λ (x : ℕ). Laid a.v.operations a.v.rules (set (set c.loop-i.out (2 + i) (get_or a.v.operations i 0)) (2 + RECORDS + i) x) (i + 1)) (sym c.wide.ensures)
          (laid_more a.v.operations a.v.rules c.loop-i.out i c.loop-i.invariant.1 c.loop-i-test.true),
    )

pub bounds-out-0 : goal.bounds-out-0
bounds-out-0 c = omega (arith, c.loop-i.invariant.1.long)

pub bounds-out-1 : goal.bounds-out-1
bounds-out-1 c = omega (arith, c.loop-i.invariant.1.long, length-set c.loop-i.out 0 c.kind_of.result)

long : (c : After-struct_known-1) → length (set (set c.loop-i.out 0 c.kind_of.result) 1 c.args.v.len) ≡ BLOCK
long c =
    length-set (set c.loop-i.out 0 c.kind_of.result) 1 c.args.v.len ∙ length-set c.loop-i.out 0 c.kind_of.result ∙ c.loop-i.invariant.1.long

pub shape_of-out : goal.shape_of-out
shape_of-out c = long c ∙ sym c.requires.1

pub returns : goal.returns
unfolding block_in
returns c =
    let v = c.args.v in (
      ap (λ (x : ℕ). set (set c.loop-i.out 0 x) 1 v.len) c.kind_of.ensures
          ∙ laid_end v.operations v.rules c.well_formed.0.1.1.1.1.0.1.0.1 c.well_formed.0.1.1.1.1.1.0.1.0.1 c.loop-i.out c.loop-i.i c.loop-i.invariant.1 c.loop-i-test.false (kind_in v.outcome) v.len,
      long c,
    )
