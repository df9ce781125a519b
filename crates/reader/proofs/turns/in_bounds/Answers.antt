-- `reader::turns::in_bounds`: form by form.
use mathlib.Core.Path.{sym, ap}
use Rattle.reader.specs.Answer.{in_bounds}
use Rattle.reader.proofs.turns.in_bounds.Goals as goal

pub returns-in-Load : goal.returns-in-Load
returns-in-Load c = sym (ap in_bounds c.in-Load.is)

pub returns-in-Store : goal.returns-in-Store
returns-in-Store c = sym (ap in_bounds c.in-Store.is)

pub returns-in-Swap : goal.returns-in-Swap
returns-in-Swap c = sym (ap in_bounds c.in-Swap.is)

pub returns-in-Fence : goal.returns-in-Fence
returns-in-Fence c = sym (ap in_bounds c.in-Fence.is)
