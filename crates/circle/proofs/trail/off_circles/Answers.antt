-- `trail::off_circles`: of the records below x, the set has those that are in no pair with themselves.
use native.Mathlib.Omega.{arith}
use Rattle.circle.proofs.Ring.{others-none, others-turn, others-all}
use Rattle.circle.proofs.trail.off_circles.Goals as goal

pub loop-x-init : goal.loop-x-init
loop-x-init c = (omega arith, others-none _)

pub loop-x-preserved : goal.loop-x-preserved
loop-x-preserved c =
    let a = c.args in
    (omega arith, others-turn a.chains.now c.loop-x.x c.loop-x.others c.put_if.new.rows (omega arith) c.loop-x.invariant.1 _ c.test.ensures c.put_if.ensures)

pub returns : goal.returns
returns c = others-all _ c.loop-x.x _ (omega arith) c.loop-x.invariant.1
