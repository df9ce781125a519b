-- `desk::heads::numbered`: the first record of a pair at an even place, the second at an odd one.
use mathlib.Core.Path.{sym}
use Rattle.desk.proofs.HeadBytes.{number-first, number-second}
use Rattle.desk.proofs.heads.numbered.Goals as goal

pub returns-then-j-eq0 : goal.returns-then-j-eq0
returns-then-j-eq0 c = sym (number-first _ _ c.if-j-eq0.true)

pub returns : goal.returns
returns c = sym (number-second _ _ c.if-j-eq0.false)
