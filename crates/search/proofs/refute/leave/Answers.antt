-- `search::refute::leave`: the numbers passed have their rows.
use mathlib.Core.Path.{◌∙◌}
use native.Mathlib.Omega.{arith}
use Rattle.search.proofs.Candidates.{next-on}
use Rattle.search.proofs.Refutation.{partly_none, partly-then}
use Rattle.search.proofs.refute.leave.Goals as goal

pub loop-y-init : goal.loop-y-init
loop-y-init c = partly_none _ _

pub leave_row-requires : goal.leave_row-requires
leave_row-requires c = (omega (arith, c.loop-y-test.true), c.loop-y.invariant.long ∙ c.requires)

pub overflow_add-y : goal.overflow_add-y
overflow_add-y c = omega arith

pub loop-y-smaller : goal.loop-y-smaller
loop-y-smaller c = omega (arith, next-on c.args.left.now c.loop-y.y _ c.next-y-in-loop-y.ensures (omega (arith, c.loop-y-test.true)))

pub loop-y-preserved : goal.loop-y-preserved
loop-y-preserved c = partly-then c.args.before.now c.loop-y.invariant c.leave_row.ensures

pub shape_of-led : goal.shape_of-led
shape_of-led c = c.loop-y.invariant.long

pub returns : goal.returns
returns c = c.loop-y.invariant
