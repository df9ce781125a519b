-- `rows::extend`: the numbers below y that x leads to have given what they have, and those from y on that have not wait.
use native.Mathlib.Omega.{arith}
use Rattle.rows.proofs.Forwards.{extend-none, extend-more, extended}
use Rattle.rows.proofs.extend.Goals as goal

pub loop-y-init : goal.loop-y-init
loop-y-init c =
    let a = c.args in
    extend-none a.rows.now (λ i. omega (arith, c.slice_known-1.given i)) a.x c.add_row.new.to c.add_row.ensures c.next-y.result c.next-y.ensures

pub loop-y-preserved : goal.loop-y-preserved
loop-y-preserved c =
    let p = c.requires in
    extend-more c.args.rows.now c.args.x c.loop-y.y c.loop-y.rest c.loop-y.rows c.loop-y.invariant p.2 p.3 (omega arith) c.join.new.rows c.join.ensures c.drop_row.new.to c.drop_row.ensures c.next-y-in-loop-y.result c.next-y-in-loop-y.ensures

pub returns : goal.returns
returns c = let l = c.loop-y in extended _ _ l.y l.rest l.rows l.invariant (omega arith)
