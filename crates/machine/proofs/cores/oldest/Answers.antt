-- `machine::cores::oldest`.
use mathlib.Core.Path.{sym, ap}
use Rattle.laws.proofs.LowestLoops.{none_below, more-below, lowest-found, lowest-nothing}
use Rattle.pairs.specs.MissingOf.{as_found}
use Rattle.machine.specs.Machine.{waiting}
use Rattle.machine.proofs.cores.oldest.Goals as goal

pub loop-i-init : goal.loop-i-init
loop-i-init c = none_below _

pub returns-then-m-i : goal.returns-then-m-i
unfolding waiting
returns-then-m-i c = sym (ap as_found (lowest-found _ _ c.loop-i.i c.loop-i.invariant c.loop-i-test.true (cc)))

pub loop-i-preserved : goal.loop-i-preserved
unfolding waiting
loop-i-preserved c = more-below _ c.loop-i.i c.loop-i.invariant (cc)

pub returns : goal.returns
returns c = sym (ap as_found (lowest-nothing _ _ _ c.loop-i.invariant c.loop-i-test.false))
