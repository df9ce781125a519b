-- `trace::cores::shows` meets its contract. The invariant: none of the records passed is of the thread.
-- Assumes nothing.
use mathlib.Core.Path.{sym, ◌∙◌}
use borrow.Author.Rules.{rules}
use Rattle.laws.specs.Tests.{any}
use Rattle.laws.proofs.Loops.{any-more, any-stops, any-fewer}
use Rattle.trace.specs.Cores.{shows}
use Rattle.trace.proofs.Lost.{shows-past}
use Rattle.trace.proofs.cores.shows.Goals as goal

pub loop-i-init : goal.loop-i-init
unfolding any
loop-i-init c = search rules

pub returns-then-i-ge-RECORDS : goal.returns-then-i-ge-RECORDS
returns-then-i-ge-RECORDS c =
    let t = c.args.t in
    let full = c.well_formed.0.1.1.0.1.0.1 in
    shows-past t c.args.thread full c.loop-i.i c.if-i-ge-RECORDS.true c.loop-i-test.true c.loop-i.invariant

pub returns-then-is_of : goal.returns-then-is_of
unfolding shows
returns-then-is_of c = sym (any-stops _ _ _ c.loop-i-test.true (sym c.is_of.ensures ∙ c.if-is_of.true))

pub loop-i-preserved : goal.loop-i-preserved
loop-i-preserved c = any-more _ _ c.loop-i.invariant (sym c.is_of.ensures ∙ c.if-is_of.false)

pub returns : goal.returns
unfolding shows
returns c = sym (any-fewer _ _ _ c.loop-i-test.false c.loop-i.invariant)
