-- `desk::paper::wheelotter_accepts`: a text that is turned back, and else what the small reader says.
use mathlib.Core.Path.{◌≡◌, ap, subst, ◌∙◌}
use native.Mathlib.Omega.{arith}
use Rattle.reader.specs.declared.Reading.{Reading}
use Rattle.papers.specs.Accepts.{Accepts}
use Rattle.desk.specs.Text.{number_in, text_number}
use Rattle.desk.proofs.paper.wheelotter_accepts.Goals.{After-number_in-wrong}
use Rattle.desk.proofs.paper.wheelotter_accepts.Goals as goal

-- the number in what the reader answers
numbered : (c : After-number_in-wrong) → c.number_in-wrong.result ≡ text_number c.args.text.now
numbered c = c.number_in-wrong.ensures ∙ ap (λ (r : Reading). number_in r.answer) c.read_whole-reading.ensures

pub returns-then-wrong-gt0 : goal.returns-then-wrong-gt0
returns-then-wrong-gt0 c =
    record { wrong = λ _. numbered (goal.at.returns-then-wrong-gt0 c).After-number_in-wrong; says = λ z. absurd (omega (arith, z, numbered (goal.at.returns-then-wrong-gt0 c).After-number_in-wrong, c.if-wrong-gt0.true)) }

pub returns : goal.returns
returns c =
    let a = c.args in
    record {
      wrong = λ w. absurd (omega (arith, w, numbered (goal.at.returns c).After-number_in-wrong, c.if-wrong-gt0.false));
      says = λ _. (
        c.accepts-a.result,
        subst (λ (r : Reading). Accepts r.trace a.model a.list.now c.accepts-a.result) c.read_whole-reading.ensures c.accepts-a.ensures,
        c.acceptance_number.ensures,
      );
    }
