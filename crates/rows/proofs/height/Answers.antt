-- `rows::height`: the rows from n on have no pair.
use native.Mathlib.Omega.{arith}
use borrow.Author.Tests.{not-false}
use Rattle.rows.proofs.Closing.{height-all, height-less}
use Rattle.rows.proofs.height.Goals as goal

pub loop-x-init : goal.loop-x-init
loop-x-init c = (omega arith, height-all _)

pub loop-x-preserved : goal.loop-x-preserved
loop-x-preserved c = let l = c.loop-x in (omega arith, height-less _ l.x l.invariant.1 (c.within.ensures.0 (not-false _ c.if-not-within.false-raw)))
