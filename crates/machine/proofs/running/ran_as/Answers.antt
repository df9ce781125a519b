-- `machine::running::ran_as`.
use Rattle.machine.proofs.ByCases.{ran-lands, ran-enters, ran-plain}
use Rattle.trace.specs.Op.{address}
use mathlib.Core.Path.{sym, ap, ◌∙◌}
use native.Mathlib.Omega.{arith}
use Rattle.machine.proofs.running.ran_as.Goals as goal

pub bounds-after-cell : goal.bounds-after-cell
bounds-after-cell c = omega (arith, c.address-cell.ensures, ap address c.op_at-op.ensures, c.requires.1)

pub returns-then-lands : goal.returns-then-lands
returns-then-lands c = let a = c.args in ran-lands a.t a.model a.m a.x _ c.op_at-op.ensures (sym c.writes.ensures ∙ c.if-writes.true) (sym c.lands.ensures ∙ c.if-lands.true) _ _ c.address-cell.ensures c.written.ensures

pub returns-else-lands : goal.returns-else-lands
returns-else-lands c = let a = c.args in ran-enters a.t a.model a.m a.x _ c.op_at-op.ensures (sym c.writes.ensures ∙ c.if-writes.true) (sym c.lands.ensures ∙ c.if-lands.false)

pub returns-else-writes : goal.returns-else-writes
returns-else-writes c = let a = c.args in ran-plain a.t a.model a.m a.x _ c.op_at-op.ensures (sym c.writes.ensures ∙ c.if-writes.false)
