-- `desk::heads::mark`: 1 where it is so.
use mathlib.Core.Path.{sym, ap}
use Rattle.laws.specs.Sums.{num}
use Rattle.desk.proofs.heads.mark.Goals as goal

pub returns-then-b : goal.returns-then-b
unfolding num
returns-then-b c = sym (ap num c.if-b.true)

pub returns : goal.returns
unfolding num
returns c = sym (ap num c.if-b.false)
