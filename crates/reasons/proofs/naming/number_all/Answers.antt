-- `naming::number_all`: the numbers of the first i edges are laid.
use mathlib.Core.Path.{refl, ◌∙◌}
use native.Mathlib.Omega.{arith}
use lib.ListN.{length-set}
use Rattle.papers.specs.inner.ReaderBranch.{branch_of}
use Rattle.reasons.proofs.Laying.{numbers-step, numbers-end}
use Rattle.reasons.proofs.naming.number_all.Goals as goal

pub loop-i-init : goal.loop-i-init
loop-i-init c = (omega arith, refl, refl)

pub loop-i-preserved : goal.loop-i-preserved
loop-i-preserved c =
    let a = c.args in
    (omega arith, length-set c.loop-i.rests c.loop-i.i c.number.result ∙ c.loop-i.invariant.1, numbers-step (branch_of a.from.now a.to.now a.count) a.steps.now a.len a.a a.b (omega arith) c.loop-i.rests c.loop-i.i c.loop-i.x c.number.result (omega arith) (omega (arith, c.loop-i.invariant.1)) c.number.ensures c.loop-i.invariant.2)

pub returns : goal.returns
returns c =
    let a = c.args in
    numbers-end (branch_of a.from.now a.to.now a.count) a.steps.now a.len a.a a.b (omega arith) c.loop-i.rests c.loop-i.i c.loop-i.x c.number-2.result (omega (arith, c.loop-i.invariant.0)) (omega (arith, c.loop-i.invariant.1)) c.number-2.ensures c.loop-i.invariant.2
