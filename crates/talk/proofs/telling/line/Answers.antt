-- `talk::telling::line`: a first value, or what the reader says of the line behind the records.
use mathlib.Core.Path.{sym, ap, ◌∙◌}
use Rattle.talk.specs.LineAnswers.{turn_said, begun_or, line_said}
use Rattle.talk.proofs.Starting.{first_good}
use Rattle.talk.proofs.telling.line.Goals as goal

pub beginning-requires : goal.beginning-requires
beginning-requires c = first_good _ _ _ _ (sym c.first_value.ensures ∙ c.in-Some.is)

pub returns-in-Some : goal.returns-in-Some
unfolding line_said
returns-in-Some c = λ C.
    let a = c.args in
    c.beginning.ensures C ∙ ap (begun_or C a.talk a.bytes.now) (sym c.in-Some.is ∙ c.first_value.ensures)

pub returns-in-None : goal.returns-in-None
unfolding line_said
returns-in-None c = λ C.
    let a = c.args in
    c.turn.ensures C
    ∙ ap (turn_said C a.talk) c.turned.ensures
    ∙ ap (begun_or C a.talk a.bytes.now) (sym c.in-None.is ∙ c.first_value.ensures)
