-- `talk::telling::first_value`: only where no record stands.
use mathlib.Core.Path.{refl}
use borrow.Author.Tests.{eq-eqb, ne_eqb}
use Rattle.talk.specs.LineAnswers.{first_value}
use Rattle.talk.proofs.telling.first_value.Goals as goal

pub returns-then-talk-eq0 : goal.returns-then-talk-eq0
unfolding first_value
returns-then-talk-eq0 c = rw (eq-eqb _ 0 c.if-talk-eq0.true) c.begin.ensures

pub returns : goal.returns
unfolding first_value
returns c = rw (ne_eqb _ 0 c.if-talk-eq0.false) refl
