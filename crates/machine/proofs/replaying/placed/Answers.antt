-- `machine::replaying::placed`.
use mathlib.Core.Path.{sym, ap, ◌∙◌}
use native.Mathlib.Omega.{arith}
use Rattle.trace.specs.Op.{thread}
use Rattle.machine.proofs.ByCases.{placed-yes, placed-no}
use Rattle.machine.proofs.replaying.placed.Goals as goal

pub returns-then-lands : goal.returns-then-lands
returns-then-lands c =
    let a = c.args in
    placed-yes a.t a.model a.b a.c _ _ _ c.op_at-op.ensures c.thread-own.ensures c.swept-after.ensures (sym c.lands.ensures ∙ c.if-lands.true)

pub overflow_add-own : goal.overflow_add-own
overflow_add-own c =
    omega (arith, c.thread-own.ensures, ap thread c.op_at-op.ensures, c.requires.1)

pub returns : goal.returns
returns c =
    let a = c.args in
    c.put.ensures ∙ placed-no a.t a.model a.b a.c _ _ _ c.op_at-op.ensures c.thread-own.ensures c.swept-after.ensures (sym c.lands.ensures ∙ c.if-lands.false)
