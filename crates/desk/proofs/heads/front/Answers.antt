-- `desk::heads::front`: which byte stands at which place.
use mathlib.Core.Path.{sym, ◌∙◌}
use native.Mathlib.Omega.{arith}
use Rattle.desk.proofs.HeadBytes.{count_room, front-model, front-count, front-pair, front-word}
use Rattle.desk.proofs.heads.front.Goals as goal

pub returns-then-i-eq0 : goal.returns-then-i-eq0
returns-then-i-eq0 c = sym (front-model _ _ c.if-i-eq0.true)

pub overflow_cast-result : goal.overflow_cast-result
overflow_cast-result c = omega (arith, count_room c.args.s c.requires)

pub returns-then-i-eq1 : goal.returns-then-i-eq1
returns-then-i-eq1 c = sym (front-count _ _ c.if-i-eq1.true)

pub returns-then-i : goal.returns-then-i
returns-then-i c = c.pair_byte.ensures ∙ sym (front-pair _ _ c.if-i-eq0.false c.if-i-eq1.false c.if-i.true)

pub returns : goal.returns
returns c = c.mark.ensures ∙ sym (front-word _ _ c.if-i-eq0.false c.if-i-eq1.false c.if-i.false)
