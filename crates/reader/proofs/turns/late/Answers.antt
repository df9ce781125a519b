-- `reader::turns::late`: within the bounds it is too late, past them that is told.
use mathlib.Core.Path.{refl}
use Rattle.reader.specs.Answer.{late}
use Rattle.reader.proofs.turns.late.Goals as goal

pub returns-then-addr-addresses : goal.returns-then-addr-addresses
unfolding late
returns-then-addr-addresses c = rw c.if-addr-addresses.true refl

pub returns : goal.returns
unfolding late
returns c = rw c.if-addr-addresses.false refl
