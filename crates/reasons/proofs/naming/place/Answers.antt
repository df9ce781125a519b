-- `naming::place`: none of the places passed has the edge.
use mathlib.Core.Path.{sym, ◌∙◌}
use native.Mathlib.Omega.{arith}
use Rattle.laws.proofs.LowestLoops.{none_below, more-below}
use Rattle.reasons.proofs.Places.{place-test, place_found, place_none}
use Rattle.reasons.proofs.naming.place.Goals as goal

pub loop-i-init : goal.loop-i-init
loop-i-init c = (omega arith, none_below _)

pub returns-then-from-i : goal.returns-then-from-i
returns-then-from-i c =
    let a = c.args in
    sym (place_found a.from.now a.to.now a.count a.x a.y c.loop-i.i c.loop-i.invariant.1 (omega arith) (place-test a.from.now a.to.now a.count a.x a.y c.loop-i.i (omega arith) ∙ c.if-from-i.true))

pub loop-i-preserved : goal.loop-i-preserved
loop-i-preserved c =
    let a = c.args in
    (omega arith, more-below _ c.loop-i.i c.loop-i.invariant.1 (place-test a.from.now a.to.now a.count a.x a.y c.loop-i.i (omega arith) ∙ c.if-from-i.false))

pub returns : goal.returns
returns c =
    let a = c.args in
    sym (place_none a.from.now a.to.now a.count a.x a.y c.loop-i.i c.loop-i.invariant.1 (omega arith))
