-- `reader::turns::one_address`: only a swap has two.
use mathlib.Core.Path.{sym, ap}
use Rattle.reader.specs.Answer.{one_address}
use Rattle.reader.proofs.turns.one_address.Goals as goal

pub returns-in-Swap : goal.returns-in-Swap
returns-in-Swap c = sym (ap one_address c.in-Swap.is)
