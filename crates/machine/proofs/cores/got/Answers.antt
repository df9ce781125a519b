-- `machine::cores::got`.
use mathlib.Core.Path.{sym, ap, ◌∙◌}
use native.Mathlib.Omega.{arith}
use Rattle.laws.specs.Latest.{last_of}
use Rattle.laws.proofs.Latest.{last_on, last_off, last-all}
use Rattle.trace.specs.Op.{thread, address}
use Rattle.machine.specs.Machine.{got}
use Rattle.machine.proofs.ByCases.{own_is}
use Rattle.machine.proofs.cores.got.Goals.{else-m-i, then-m-i}
use Rattle.machine.proofs.cores.got.Goals as goal

pub bounds-m-cell : goal.bounds-m-cell
bounds-m-cell c = omega (arith, c.address-addr.ensures, ap address c.op_at-reader.ensures, c.requires.1)

pub loop-i-init : goal.loop-i-init
unfolding last_of
loop-i-init c = (omega arith, cc)

pub loop-i-preserved : goal.loop-i-preserved
loop-i-preserved c =
    let g = c.args in
    let core = c.thread-core.ensures ∙ ap thread c.op_at-reader.ensures in
    let addr = c.address-addr.ensures ∙ ap address c.op_at-reader.ensures in
    let own = own_is g.t g.m g.x c.loop-i.i _ _ _ _ c.thread.ensures core c.address.ensures addr in (
      omega arith,
      (elim c.if-m-i.branch [ then-m-i w ↦ last_on _ _ _ c.loop-i.i (sym own ∙ w.if-m-i.true) (cc) | else-m-i w ↦ last_off _ _ _ c.loop-i.i (sym own ∙ w.if-m-i.false) (w.value-is ∙ c.loop-i.invariant.1) ]),
    )

pub returns : goal.returns
unfolding got
returns c = last-all _ _ _ c.loop-i.i _ c.loop-i.invariant.0 c.loop-i-test.false c.loop-i.invariant.1
