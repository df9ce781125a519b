-- `naming::number`: a place below the count is a number.
use mathlib.Core.Path.{sym}
use native.Mathlib.Omega.{arith}
use Rattle.reasons.proofs.Places.{number-found, number-none}
use Rattle.reasons.proofs.naming.number.Goals as goal

pub returns-then-i-count : goal.returns-then-i-count
returns-then-i-count c =
    let a = c.args in
    sym (number-found a.from.now a.to.now a.count a.x a.y _ c.place-i.ensures (omega arith))

pub returns : goal.returns
returns c =
    let a = c.args in
    sym (number-none a.from.now a.to.now a.count a.x a.y _ c.place-i.ensures (omega arith))
