-- `talk::telling::recorded`: the number where the record was taken.
use mathlib.Core.Path.{refl, sym, ◌∙◌}
use Rattle.talk.proofs.telling.recorded.Goals as goal

pub returns-then-done : goal.returns-then-done
returns-then-done c = rw (sym c.done.ensures ∙ c.if-done.true) refl
