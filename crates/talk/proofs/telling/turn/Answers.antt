-- `talk::telling::turn`: a record that is taken, or the number of the line.
use mathlib.Core.Path.{sym, ap, ◌∙◌}
use Prim.Native.Nat.{ℕ}
use Rattle.talk.specs.LineAnswers.{refused_of, turn_said}
use Rattle.talk.proofs.telling.turn.Goals as goal

pub returns-in-Ok : goal.returns-in-Ok
returns-in-Ok c = λ C.
    c.addition.ensures C ∙ ap (turn_said C c.args.talk) (sym c.in-Ok.is)

pub returns-in-Err : goal.returns-in-Err
returns-in-Err c = λ C.
    let k = c.args.talk in
    c.refused.ensures ∙ ap (λ (n : ℕ). refused_of k n) c.number.ensures ∙ ap (turn_said C k) (sym c.in-Err.is)
