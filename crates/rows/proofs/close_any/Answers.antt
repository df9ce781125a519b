-- `rows::close_any`: the rows hold the chains through numbers below k.
use native.Mathlib.Omega.{arith}
use Rattle.rows.proofs.Closing.{stage-none, stage-more, stage-all}
use Rattle.rows.proofs.close_any.Goals as goal

pub loop-k-init : goal.loop-k-init
loop-k-init c = (omega arith, stage-none c.args.rows.now)

pub loop-k-preserved : goal.loop-k-preserved
loop-k-preserved c =
    (omega arith, stage-more c.args.rows.now c.loop-k.k c.loop-k.rows c.pass.new.rows c.loop-k.invariant.1 c.pass.ensures)

pub returns : goal.returns
returns c = stage-all c.args.rows.now c.loop-k.k c.loop-k.rows (omega arith) c.loop-k.invariant.1
