-- `machine::running::finished`.
use mathlib.Core.Path.{sym}
use Rattle.laws.specs.Tests.{all}
use Rattle.laws.proofs.Loops.{all_more, all-stops, all-fewer}
use Rattle.machine.specs.Machine.{finished}
use borrow.Author.Rules.{rules}
use Rattle.machine.proofs.running.finished.Goals as goal

pub loop-i-init : goal.loop-i-init
unfolding all
loop-i-init c = search rules

pub returns-then-not-m-i : goal.returns-then-not-m-i
unfolding finished
returns-then-not-m-i c = sym (all-stops _ _ c.loop-i.i c.loop-i-test.true (c.if-not-m-i.true))

pub loop-i-preserved : goal.loop-i-preserved
loop-i-preserved c = all_more _ c.loop-i.i c.loop-i.invariant (c.if-not-m-i.false)

pub returns : goal.returns
unfolding finished
returns c = sym (all-fewer _ _ _ c.loop-i-test.false c.loop-i.invariant)
