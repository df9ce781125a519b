-- `rows::put_if`: the pair is put, or the rows are left.
use mathlib.Core.Path.{refl}
use Rattle.rows.specs.Put.{put_if}
use Rattle.rows.proofs.put_if.Goals as goal

pub returns-then-yes : goal.returns-then-yes
unfolding put_if
returns-then-yes c = rw c.if-yes.true c.put.ensures

pub returns-else-yes : goal.returns-else-yes
unfolding put_if
returns-else-yes c = rw c.if-yes.false refl
