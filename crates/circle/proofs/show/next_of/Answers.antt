-- `show::next_of`: the first follows the last.
use mathlib.Core.Path.{sym}
use native.Mathlib.Omega.{arith}
use Rattle.circle.proofs.NamedRules.{after_next, after_last}
use Rattle.circle.proofs.show.next_of.Goals as goal

pub returns-then-i-len : goal.returns-then-i-len
returns-then-i-len c = let a = c.args in sym (after_next a.operations.now a.len a.i (omega arith) (omega arith))

pub returns : goal.returns
returns c = let a = c.args in sym (after_last a.operations.now a.len a.i (omega arith) (omega arith) (omega arith))
