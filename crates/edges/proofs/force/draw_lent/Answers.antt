-- `edges::force::draw_lent`: the rows below x are drawn.
use mathlib.Core.Path.{sym, ◌∙◌}
use mathlib.Core.Bool.{So, false≢true}
use native.Mathlib.Omega.{arith}
use Rattle.rows.specs.Rows.{bit}
use Rattle.edges.proofs.PairSets.{adds-as, union-none, union_more, union-skip}
use Rattle.edges.proofs.force.draw_lent.Goals.{else-not-test, then-not-test}
use Rattle.edges.proofs.force.draw_lent.Goals as goal

pub loop-x-init : goal.loop-x-init
loop-x-init c = (omega arith, union-none _ c.args.edges.now)

pub loop-x-preserved : goal.loop-x-preserved
loop-x-preserved c =
    let x = c.loop-x.x in
    (elim c.if-not-test.branch [
      | then-not-test w ↦ let clear : So (bit c.args.others.now 0 x) → ⊥ = λ b. false≢true (sym (w.if-not-test.true) ∙ c.test.ensures ∙ b) in
          (omega arith, rw w.edges-is (union_more _ x c.loop-x.invariant.1 (adds-as _ w.draw_lent_from.ensures (λ i j. (λ u. (clear, u), λ u. u.1)))))
      | else-not-test w ↦ let there = sym c.test.ensures ∙ w.if-not-test.false in
          (omega arith, rw w.edges-is (union-skip _ x c.loop-x.invariant.1 (λ i j u. u.0 there)))
    ])
