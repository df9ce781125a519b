-- `reader::turns::op_of`: numbers within their bounds fit the record's types.
use mathlib.Core.Path.{sym, ap}
use native.Mathlib.Omega.{arith}
use Rattle.reader.specs.Answer.{op_of}
use Rattle.reader.proofs.Bounded.{load-within, store-within, swap-within, fence-within}
use Rattle.reader.proofs.turns.op_of.Goals as goal

pub overflow_cast-result : goal.overflow_cast-result
overflow_cast-result c = omega (arith, load-within c.requires c.in-Load.is)

pub overflow_cast-result-in-Load : goal.overflow_cast-result-in-Load
overflow_cast-result-in-Load c = omega (arith, load-within c.requires c.in-Load.is)

pub overflow_cast-result-in-Load-2 : goal.overflow_cast-result-in-Load-2
overflow_cast-result-in-Load-2 c = omega (arith, load-within c.requires c.in-Load.is)

pub overflow_cast-result-in-Store : goal.overflow_cast-result-in-Store
overflow_cast-result-in-Store c = omega (arith, store-within c.requires c.in-Store.is)

pub overflow_cast-result-in-Store-2 : goal.overflow_cast-result-in-Store-2
overflow_cast-result-in-Store-2 c = omega (arith, store-within c.requires c.in-Store.is)

pub overflow_cast-result-in-Store-3 : goal.overflow_cast-result-in-Store-3
overflow_cast-result-in-Store-3 c = omega (arith, store-within c.requires c.in-Store.is)

pub overflow_cast-result-in-Swap : goal.overflow_cast-result-in-Swap
overflow_cast-result-in-Swap c = omega (arith, swap-within c.requires c.in-Swap.is)

pub overflow_cast-result-in-Swap-2 : goal.overflow_cast-result-in-Swap-2
overflow_cast-result-in-Swap-2 c = omega (arith, swap-within c.requires c.in-Swap.is)

pub overflow_cast-result-in-Swap-3 : goal.overflow_cast-result-in-Swap-3
overflow_cast-result-in-Swap-3 c = omega (arith, swap-within c.requires c.in-Swap.is)

pub overflow_cast-result-in-Swap-4 : goal.overflow_cast-result-in-Swap-4
overflow_cast-result-in-Swap-4 c = omega (arith, swap-within c.requires c.in-Swap.is)

pub overflow_cast-result-in-Fence : goal.overflow_cast-result-in-Fence
overflow_cast-result-in-Fence c = omega (arith, fence-within c.requires c.in-Fence.is)

pub returns-in-Load : goal.returns-in-Load
returns-in-Load c = sym (ap op_of c.in-Load.is)

pub returns-in-Store : goal.returns-in-Store
returns-in-Store c = sym (ap op_of c.in-Store.is)

pub returns-in-Swap : goal.returns-in-Swap
returns-in-Swap c = sym (ap op_of c.in-Swap.is)

pub returns-in-Fence : goal.returns-in-Fence
returns-in-Fence c = sym (ap op_of c.in-Fence.is)
