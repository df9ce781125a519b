-- `choice::next_of`: the closing tells whether there is a circle, and what is held where there is none.
use Rattle.reasons.proofs.Lists.{next-circle, known, next-split}
use Rattle.reasons.proofs.choice.next_of.Goals as goal

pub returns-then-closed : goal.returns-then-closed
returns-then-closed c = λ E s.
    let a = c.args in
    next-circle a.t c.requires.0 a.model c.requires.1 a.supposed.now E s c.forced-closed.result c.forced-closed.ensures c.if-closed.true

pub returns : goal.returns
returns c = λ E s.
    let a = c.args in
    let u = c.forced-closed in
    next-split a.t c.requires.0 a.model c.requires.1 a.supposed.now E s u.result u.ensures c.if-closed.false c.choose-pair.result
    (c.choose-pair.ensures E (known a.t c.requires.0 a.model c.requires.1 a.supposed.now E s u.result u.ensures c.requires.2 a.read.now c.requires.3))
