-- `machine::replaying::built`: the operations of the places passed are placed.
use mathlib.Core.Path.{refl, sym, ap, ◌∙◌}
use mathlib.Core.Bool.{true}
use native.Mathlib.Omega.{arith}
use Rattle.pairs.proofs.ValidOrders.{well-fits}
use Rattle.machine.specs.declared.Built.{Built}
use Rattle.machine.specs.Replay.{swept, built_of}
use Rattle.machine.proofs.ByCases.{core-fits, placing-more, placing-end}
use Rattle.machine.proofs.replaying.built.Goals as goal

pub loop-i-init : goal.loop-i-init
loop-i-init c = (omega arith, refl)

pub overflow_cast-c : goal.overflow_cast-c
overflow_cast-c c = omega (arith, c.type_inv.order c.loop-i.i)

pub placed-b-requires : goal.placed-b-requires
placed-b-requires c =
    core-fits c.args.t c.requires.0 _ (c.requires.1 c.loop-i.i c.loop-i-test.true)

pub loop-i-preserved : goal.loop-i-preserved
loop-i-preserved c =
    let l = c.loop-i in
    let a = c.args in
    (omega arith, l.invariant.1 ∙ placing-more a.t a.model l.b a.order.now l.i _ c.loop-i-test.true c.placed-b.ensures)

pub swept-requires : goal.swept-requires
swept-requires c = well-fits c.args.t c.requires.0

pub returns : goal.returns
unfolding built_of
returns c =
    let l = c.loop-i in
    let a = c.args in
    c.swept.ensures ∙ ap (λ (b : Built). swept a.t true 0 b a.t.len) (sym (placing-end a.t a.model l.b a.order.now l.i c.loop-i-test.false) ∙ sym l.invariant.1)
