-- `desk::paper::wheelotter_paper`: what is wrong with the text, no such model, no room for a length; then what the writer says.
use mathlib.Core.Path.{◌≡◌, sym, ap, ◌∙◌}
use native.Mathlib.Omega.{arith}
use Rattle.reader.specs.Whole.{read_whole}
use Rattle.reader.specs.declared.Reading.{Reading}
use Rattle.desk.specs.Text.{number_in, text_number}
use Rattle.desk.specs.PaperWritten.{LIST}
use Rattle.desk.proofs.Ranked.{ranked-wrong, ranked-model, ranked-short, ranked-says}
use Rattle.desk.proofs.PaperWriting.{unshown-written, shown-written}
use Rattle.desk.proofs.paper.wheelotter_paper.Goals.{After-number_in-wrong}
use Rattle.desk.proofs.paper.wheelotter_paper.Goals as goal

-- the number in what the reader answers
numbered : (c : After-number_in-wrong) → c.number_in-wrong.result ≡ text_number c.args.text.now
numbered c = c.number_in-wrong.ensures ∙ ap (λ (r : Reading). number_in r.answer) c.read_whole-reading.ensures

pub returns-then-wrong-gt0 : goal.returns-then-wrong-gt0
returns-then-wrong-gt0 c =
    let a = c.args in
    rw (numbered (goal.at.returns-then-wrong-gt0 c).After-number_in-wrong) (ranked-wrong a.text.now a.model LIST _ a.out.now (omega (arith, numbered (goal.at.returns-then-wrong-gt0 c).After-number_in-wrong, c.if-wrong-gt0.true)))

pub returns-then-not-modelled : goal.returns-then-not-modelled
returns-then-not-modelled c =
    let a = c.args in
    ranked-model a.text.now a.model LIST _ a.out.now (omega (arith, numbered (goal.at.returns-then-not-modelled c).After-number_in-wrong, c.if-wrong-gt0.false)) (sym c.modelled.ensures ∙ c.if-not-modelled.true)

pub returns-then-out-lt-LIST : goal.returns-then-out-lt-LIST
returns-then-out-lt-LIST c =
    let a = c.args in
    ranked-short a.text.now a.model LIST _ a.out.now (omega (arith, numbered (goal.at.returns-then-out-lt-LIST c).After-number_in-wrong, c.if-wrong-gt0.false)) (sym c.modelled.ensures ∙ c.if-not-modelled.false) c.if-out-lt-LIST.true

pub returns-then-shown : goal.returns-then-shown
returns-then-shown c =
    let a = c.args in
    ranked-says a.text.now a.model LIST _ a.out.now (omega (arith, numbered (goal.at.returns-then-shown c).After-number_in-wrong, c.if-wrong-gt0.false)) (sym c.modelled.ensures ∙ c.if-not-modelled.false) c.if-out-lt-LIST.false _ _
    (shown-written (read_whole a.text.now).trace a.model a.out.now c.if-out-lt-LIST.false _ (ap (λ (r : Reading). r.trace) c.read_whole-reading.ensures) _ c.write-w.result c.write-w.ensures
    (sym c.shown.ensures ∙ c.if-shown.true) _ c.length_of.ensures _ c.put_length.ensures)

pub returns : goal.returns
returns c =
    let a = c.args in
    ranked-says a.text.now a.model LIST _ a.out.now (omega (arith, numbered (goal.at.returns c).After-number_in-wrong, c.if-wrong-gt0.false)) (sym c.modelled.ensures ∙ c.if-not-modelled.false) c.if-out-lt-LIST.false _ _
    (unshown-written (read_whole a.text.now).trace a.model a.out.now c.if-out-lt-LIST.false _ (ap (λ (r : Reading). r.trace) c.read_whole-reading.ensures) _ c.write-w.result c.write-w.ensures
    (sym c.shown.ensures ∙ c.if-shown.false) _ c.listed_number.ensures)
