-- `naming::lay`: the first i numbers are laid.
use mathlib.Core.Path.{◌≡◌, refl, ap, ◌∙◌}
use native.Mathlib.Omega.{arith}
use lib.ListN.{length, take, length-set}
use lib.Seq.{sets, length-take-le}
use Rattle.reasons.proofs.Laying.{lay-write, lay-skip}
use Rattle.reasons.proofs.naming.lay.Goals.{else-at-i, then-at-i}
use Rattle.reasons.proofs.naming.lay.Goals as goal

pub returns-then-limit-at : goal.returns-then-limit-at
returns-then-limit-at c = omega (arith, length-take-le c.args.n c.args.words.now (omega arith))

pub loop-i-init : goal.loop-i-init
loop-i-init c = (omega arith, refl, refl)

pub loop-i-preserved : goal.loop-i-preserved
loop-i-preserved c =
    let a = c.args in
    (elim c.if-at-i.branch [
      | then-at-i w ↦ let q : length c.if-at-i.out ≡ length c.loop-i.out = ap length w.out-is ∙ simp length-set in
          (omega arith, w.out-is ∙ lay-write a.out.now a.at a.words.now c.loop-i.out c.loop-i.i (omega arith) c.loop-i.invariant.1, q ∙ c.loop-i.invariant.2)
      | else-at-i w ↦ (omega arith, w.out-is ∙ lay-skip a.out.now a.at a.words.now c.loop-i.out c.loop-i.i (omega arith) c.loop-i.invariant.1 (omega (arith, w.if-at-i.false)), ap length w.out-is ∙ c.loop-i.invariant.2)
    ])

pub returns : goal.returns
returns c =
    let a = c.args in
    let n : c.loop-i.i ≡ a.n = omega (arith, c.loop-i.invariant.0) in
    (omega (arith, length-take-le a.n a.words.now (omega arith)), omega arith, c.loop-i.invariant.1 ∙ ap (λ i. sets a.out.now a.at (take i a.words.now)) n)
