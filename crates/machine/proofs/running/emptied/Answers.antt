-- `machine::running::emptied`.
use Rattle.trace.specs.Op.{address}
use mathlib.Core.Path.{ap}
use native.Mathlib.Omega.{arith}
use Rattle.machine.specs.Machine.{emptied}
use Rattle.machine.proofs.running.emptied.Goals as goal

pub bounds-after-cell : goal.bounds-after-cell
bounds-after-cell c = omega (arith, c.address-cell.ensures, ap address c.op_at-op.ensures, c.requires.1)

pub returns : goal.returns
unfolding emptied
returns c = cc
