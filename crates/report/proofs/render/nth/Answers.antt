-- `report::render::nth`: an element, or 0 past the end.
use mathlib.Core.Path.{refl, sym}
use native.Mathlib.Omega.{arith}
use lib.ListN.{get_or-eq_default}
use Rattle.report.proofs.render.nth.Goals as goal

pub overflow_cast-result : goal.overflow_cast-result
overflow_cast-result c = omega (arith, c.type_inv.numbers c.args.n)

pub returns-then-n-numbers : goal.returns-then-n-numbers
returns-then-n-numbers c = (refl, omega (arith, c.type_inv.numbers c.args.n))

pub returns : goal.returns
returns c = (sym (get_or-eq_default c.args.numbers.now 0 {n = c.args.n} (omega arith)), omega arith)
