-- `signature::choices::has_loads`: none of those passed is one.
use mathlib.Core.Path.{sym, ◌∙◌}
use Rattle.laws.specs.Tests.{any}
use Rattle.laws.proofs.Loops.{any-more, any-stops, any-fewer}
use Rattle.signature.specs.Reads.{reader}
use borrow.Author.Rules.{rules}
use Rattle.signature.proofs.choices.has_loads.Goals as goal

pub loop-i-init : goal.loop-i-init
unfolding any
loop-i-init c = search rules

pub returns-then-of_thread : goal.returns-then-of_thread
unfolding reader
returns-then-of_thread c = sym (any-stops _ _ _ c.loop-i-test.true (sym c.of_thread.ensures ∙ c.if-of_thread.true))

pub loop-i-preserved : goal.loop-i-preserved
unfolding reader
loop-i-preserved c = any-more _ _ c.loop-i.invariant (sym c.of_thread.ensures ∙ c.if-of_thread.false)

pub returns : goal.returns
returns c = sym (any-fewer _ _ _ c.loop-i-test.false c.loop-i.invariant)
