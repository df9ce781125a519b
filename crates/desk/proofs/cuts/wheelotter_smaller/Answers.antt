-- `desk::cuts::wheelotter_smaller`: a text that is turned back, then no such model, then what is left where there is room for it.
use mathlib.Core.Path.{◌≡◌, sym, ap, ◌∙◌, subst}
use native.Mathlib.Omega.{arith}
use Rattle.reader.specs.Whole.{read_whole}
use Rattle.reader.specs.declared.Reading.{Reading}
use Rattle.reader.proofs.Whole.{whole-well}
use Rattle.smaller.specs.Smaller.{ToldSmaller}
use Rattle.desk.specs.Text.{number_in, text_number}
use Rattle.desk.proofs.Ranked.{ranked-wrong, ranked-model}
use Rattle.desk.proofs.Leaving.{heading-few, left-said}
use Rattle.desk.proofs.cuts.wheelotter_smaller.Goals.{After-number_in-wrong, After-smaller}
use Rattle.desk.proofs.cuts.wheelotter_smaller.Goals as goal

-- the number in what the reader answers
numbered : (c : After-number_in-wrong) → c.number_in-wrong.result ≡ text_number c.args.text.now
numbered c = c.number_in-wrong.ensures ∙ ap (λ (r : Reading). number_in r.answer) c.read_whole-reading.ensures

pub returns-then-wrong-gt0 : goal.returns-then-wrong-gt0
returns-then-wrong-gt0 c =
    let a = c.args in
    rw (numbered (goal.at.returns-then-wrong-gt0 c).After-number_in-wrong) (ranked-wrong a.text.now a.model 0 _ a.out.now (omega (arith, numbered (goal.at.returns-then-wrong-gt0 c).After-number_in-wrong, c.if-wrong-gt0.true)))

pub returns-then-not-modelled : goal.returns-then-not-modelled
returns-then-not-modelled c =
    let a = c.args in
    ranked-model a.text.now a.model 0 _ a.out.now (omega (arith, numbered (goal.at.returns-then-not-modelled c).After-number_in-wrong, c.if-wrong-gt0.false)) (sym c.modelled.ensures ∙ c.if-not-modelled.true)

-- what is left of the trace that the text writes
told : (c : After-smaller) → let a = c.args in ToldSmaller (read_whole a.text.now).trace a.model c.smaller.result
told c =
    let a = c.args in
    subst (λ (r : Reading). ToldSmaller r.trace a.model c.smaller.result) c.read_whole-reading.ensures c.smaller.ensures

pub hand_over-requires : goal.hand_over-requires
hand_over-requires c =
    let a = c.args in
    heading-few a.model (read_whole a.text.now).trace (whole-well a.text.now) c.smaller.result (told (goal.at.hand_over-requires c).After-smaller)

pub returns : goal.returns
returns c =
    let a = c.args in
    left-said a.text.now a.model a.out.now (omega (arith, numbered (goal.at.returns c).After-number_in-wrong, c.if-wrong-gt0.false)) (sym c.modelled.ensures ∙ c.if-not-modelled.false)
    c.smaller.result (told (goal.at.returns c).After-smaller) _ _ c.hand_over.ensures.0 c.hand_over.ensures.1
