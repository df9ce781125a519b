-- `machine::cores::any_waits`.
use mathlib.Core.Path.{sym}
use Rattle.laws.specs.Tests.{any}
use Rattle.laws.proofs.Loops.{any-more, any-stops, any-fewer}
use Rattle.machine.specs.Machine.{waiting}
use borrow.Author.Rules.{rules}
use Rattle.machine.proofs.cores.any_waits.Goals as goal

pub loop-i-init : goal.loop-i-init
unfolding any
loop-i-init c = search rules

pub returns-then-m-i : goal.returns-then-m-i
unfolding waiting
returns-then-m-i c = sym (any-stops _ _ c.loop-i.i c.loop-i-test.true (cc))

pub loop-i-preserved : goal.loop-i-preserved
unfolding waiting
loop-i-preserved c = any-more _ c.loop-i.i c.loop-i.invariant (cc)

pub returns : goal.returns
returns c = sym (any-fewer _ _ _ c.loop-i-test.false c.loop-i.invariant)
