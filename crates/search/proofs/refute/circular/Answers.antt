-- `search::refute::circular`: what a round draws ranks no more than the rows did; a circle ends it.
use mathlib.Core.Bool.{false≢true}
use mathlib.Core.Path.{sym, ◌∙◌}
use Rattle.search.proofs.Refutation.{grown-none, grown-then, unranked}
use Rattle.search.proofs.refute.circular.Goals as goal

pub loop-round-init : goal.loop-round-init
loop-round-init c = (grown-none _ _, c.requires.2)

pub shape_of-led-then-reflexive : goal.shape_of-led-then-reflexive
shape_of-led-then-reflexive c = c.loop-round.invariant.0.long

pub shape_of-changed-then-reflexive : goal.shape_of-changed-then-reflexive
shape_of-changed-then-reflexive c = c.loop-round.invariant.1 ∙ sym c.requires.2

pub returns-then-reflexive : goal.returns-then-reflexive
returns-then-reflexive c = record { grown = c.loop-round.invariant.0; unranked = λ _. unranked _ (sym c.reflexive.ensures ∙ c.if-reflexive.true) }

pub shape_of-led-then-next-ge-RECORDS : goal.shape_of-led-then-next-ge-RECORDS
shape_of-led-then-next-ge-RECORDS c = c.loop-round.invariant.0.long

pub shape_of-changed-then-next-ge-RECORDS : goal.shape_of-changed-then-next-ge-RECORDS
shape_of-changed-then-next-ge-RECORDS c = c.loop-round.invariant.1 ∙ sym c.requires.2

pub returns-then-next-ge-RECORDS : goal.returns-then-next-ge-RECORDS
returns-then-next-ge-RECORDS c = record { grown = c.loop-round.invariant.0; unranked = λ t. absurd (false≢true t) }

pub settle-requires : goal.settle-requires
settle-requires c = (c.requires.0, c.loop-round.invariant.0.long ∙ c.requires.1)

pub loop-round-preserved : goal.loop-round-preserved
loop-round-preserved c = (grown-then c.loop-round.invariant.0 c.settle.ensures, c.settle.auto.changed ∙ c.clear.auto.rows ∙ c.loop-round.invariant.1)

pub shape_of-led : goal.shape_of-led
shape_of-led c = c.loop-round.invariant.0.long

pub shape_of-changed : goal.shape_of-changed
shape_of-changed c = c.loop-round.invariant.1 ∙ sym c.requires.2

pub returns : goal.returns
returns c = record { grown = c.loop-round.invariant.0; unranked = λ t. absurd (false≢true t) }
