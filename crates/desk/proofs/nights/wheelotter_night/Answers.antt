-- `desk::nights::wheelotter_night`: what is wrong with the text, or what is answered to the runs of its program.
use mathlib.Core.Path.{◌≡◌, ap, ◌∙◌}
use native.Mathlib.Omega.{arith}
use Rattle.reader.specs.declared.Reading.{Reading}
use Rattle.desk.specs.Text.{number_in, text_number}
use Rattle.desk.proofs.Nightly.{night-wrong, night-good}
use Rattle.desk.proofs.nights.wheelotter_night.Goals.{After-number_in-wrong}
use Rattle.desk.proofs.nights.wheelotter_night.Goals as goal

-- the number in what the reader answers
numbered : (c : After-number_in-wrong) → c.number_in-wrong.result ≡ text_number c.args.text.now
numbered c = c.number_in-wrong.ensures ∙ ap (λ (r : Reading). number_in r.answer) c.read_whole-reading.ensures

pub returns-then-wrong-gt0 : goal.returns-then-wrong-gt0
returns-then-wrong-gt0 c =
    let a = c.args in
    night-wrong a.text.now a.model a.words.now a.out.now (omega (arith, numbered (goal.at.returns-then-wrong-gt0 c).After-number_in-wrong, c.if-wrong-gt0.true)) _ (numbered (goal.at.returns-then-wrong-gt0 c).After-number_in-wrong)

pub returns : goal.returns
returns c =
    let a = c.args in
    night-good a.text.now a.model a.words.now a.out.now (omega (arith, numbered (goal.at.returns c).After-number_in-wrong, c.if-wrong-gt0.false)) c.read_whole-reading.result.trace (ap (λ (r : Reading). r.trace) c.read_whole-reading.ensures) _ c.night.result c.night.ensures _ c.night_code.ensures
