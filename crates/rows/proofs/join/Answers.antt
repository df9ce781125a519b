-- `rows::join`: row x has what row k has in the words below i.
use native.Mathlib.Omega.{arith}
use Rattle.rows.proofs.Closing.{join-word, joined}
use Rattle.rows.proofs.join.Goals as goal

pub loop-i-preserved : goal.loop-i-preserved
loop-i-preserved c =
    let a = c.args in
    let now = c.loop-i.invariant.1 in
    (omega arith, join-word a.rows.now c.loop-i.rows a.x a.k c.loop-i.i now (omega arith) (omega arith) (omega arith) (omega (arith, now.long)))

pub returns : goal.returns
returns c =
    let a = c.args in
    joined a.rows.now c.loop-i.rows a.x a.k c.loop-i.i c.loop-i.invariant.1 (omega arith)
