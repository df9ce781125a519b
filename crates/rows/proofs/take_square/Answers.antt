-- `rows::take_square`: the words below i are taken.
use native.Mathlib.Omega.{arith}
use lib.ListN.{length-set}
use Rattle.rows.specs.inner.Squares.{part}
use Rattle.rows.proofs.Turning.{part-cell, taking-more}
use Rattle.rows.proofs.take_square.Goals as goal

pub loop-i-preserved : goal.loop-i-preserved
loop-i-preserved c =
    let l = c.loop-i in
    let a = c.args in
    let long = length-set l.square l.i c.word_below.result in (
      omega arith,
      omega arith,
      taking-more (part a.rows.now a.n a.p a.q) l.square l.i _ (omega arith) l.invariant.2 (λ j h. part-cell a.rows.now a.n a.p a.q l.i j (omega arith) h _ c.word_below.ensures),
    )
