-- `rows::close_forward`: the rows from x on hold the chains, those before x are as they were.
use mathlib.Core.Path.{◌∙◌}
use Prim.Native.Nat.{◌-◌}
use native.Mathlib.Omega.{arith}
use Rattle.rows.proofs.Forwards.{from_more, from-forward, from_past}
use Rattle.rows.proofs.close_forward.Goals as goal

pub extend-requires : goal.extend-requires
extend-requires c =
    let e = c.args.rows.now in
    let now = c.loop-x.invariant.1 in
    let x = c.loop-x.x in
    (omega arith, now.long ∙ c.requires.1, from-forward e x c.loop-x.rows now c.requires.3, from_past e x c.loop-x.rows now (x - 1) (omega arith))

pub loop-x-preserved : goal.loop-x-preserved
loop-x-preserved c =
    let x = c.loop-x.x in
    (omega arith, from_more c.args.rows.now x c.loop-x.rows c.loop-x.invariant.1 (x - 1) (omega arith) c.requires.3 c.extend.new.rows c.extend.ensures)
