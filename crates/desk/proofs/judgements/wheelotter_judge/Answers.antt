-- `desk::judgements::wheelotter_judge`: a text that is turned back, then no such model, then too short a buffer, then what the judge says.
use mathlib.Core.Path.{◌≡◌, sym, ap, ap₂, ◌∙◌}
use mathlib.Core.List.{[], ◌∷◌, ◌++◌}
use Prim.Native.Nat.{ℕ, ◌<◌}
use native.Mathlib.Omega.{arith}
use lib.ListN.{drop}
use Rattle.trace.specs.Bounds.{RECORDS}
use Rattle.reader.specs.Whole.{read_whole}
use Rattle.reader.specs.declared.Reading.{Reading}
use Rattle.reader.proofs.Whole.{whole-well}
use Rattle.judge.specs.Judged.{judged_of}
use Rattle.desk.specs.Text.{number_in, text_number}
use Rattle.desk.specs.VerdictBytes.{wide}
use Rattle.desk.specs.JudgeCall.{JUDGEMENT, judgement_number, concerns, second}
use Rattle.desk.proofs.Ranked.{ranked-wrong, ranked-model, ranked-short, ranked-says}
use Rattle.desk.proofs.Judging.{judged-below, judged-laid}
use borrow.Author.Rules.{rules}
use Rattle.desk.proofs.judgements.wheelotter_judge.Goals.{After-judge-j, After-number_in-wrong}
use Rattle.desk.proofs.judgements.wheelotter_judge.Goals as goal

-- the number in what the reader answers
numbered : (c : After-number_in-wrong) → c.number_in-wrong.result ≡ text_number c.args.text.now
numbered c = c.number_in-wrong.ensures ∙ ap (λ (r : Reading). number_in r.answer) c.read_whole-reading.ensures

pub returns-then-wrong-gt0 : goal.returns-then-wrong-gt0
returns-then-wrong-gt0 c =
    let a = c.args in
    rw (numbered (goal.at.returns-then-wrong-gt0 c).After-number_in-wrong) (ranked-wrong a.text.now a.model JUDGEMENT _ a.out.now (omega (arith, numbered (goal.at.returns-then-wrong-gt0 c).After-number_in-wrong, c.if-wrong-gt0.true)))

pub returns-then-not-modelled : goal.returns-then-not-modelled
returns-then-not-modelled c =
    let a = c.args in
    ranked-model a.text.now a.model JUDGEMENT _ a.out.now (omega (arith, numbered (goal.at.returns-then-not-modelled c).After-number_in-wrong, c.if-wrong-gt0.false)) (sym c.modelled.ensures ∙ c.if-not-modelled.true)

pub returns-then-out-lt-JUDGEMENT : goal.returns-then-out-lt-JUDGEMENT
returns-then-out-lt-JUDGEMENT c =
    let a = c.args in
    ranked-short a.text.now a.model JUDGEMENT _ a.out.now (omega (arith, numbered (goal.at.returns-then-out-lt-JUDGEMENT c).After-number_in-wrong, c.if-wrong-gt0.false)) (sym c.modelled.ensures ∙ c.if-not-modelled.false) c.if-out-lt-JUDGEMENT.true

-- the judgement of the list for the trace that the text writes
judged : (c : After-judge-j) → let a = c.args in c.judge-j.result ≡ judged_of (read_whole a.text.now).trace a.model a.list.now
judged c =
    let a = c.args in
    c.judge-j.ensures ∙ ap (λ (r : Reading). judged_of r.trace a.model a.list.now) c.read_whole-reading.ensures

pub overflow_cast-one : goal.overflow_cast-one
overflow_cast-one c =
    let a = c.args in
    let small : c.concerns-one.result < RECORDS =
    rw (c.concerns-one.ensures, judged (goal.at.overflow_cast-one c).After-judge-j) (judged-below (read_whole a.text.now).trace a.model a.list.now (whole-well a.text.now)).0 in
    search rules

pub overflow_cast-other : goal.overflow_cast-other
overflow_cast-other c =
    let a = c.args in
    let small : c.second-other.result < RECORDS =
    rw (c.second-other.ensures, judged (goal.at.overflow_cast-other c).After-judge-j) (judged-below (read_whole a.text.now).trace a.model a.list.now (whole-well a.text.now)).1 in
    search rules

pub returns : goal.returns
returns c =
    let a = c.args in
    ranked-says a.text.now a.model JUDGEMENT _ a.out.now (omega (arith, numbered (goal.at.returns c).After-number_in-wrong, c.if-wrong-gt0.false)) (sym c.modelled.ensures ∙ c.if-not-modelled.false)
    (omega (arith, c.if-out-lt-JUDGEMENT.false)) _ _ (
      c.judgement_number.ensures ∙ ap judgement_number (judged (goal.at.returns c).After-judge-j),
      c.put_wide.ensures
          ∙ judged-laid c.concerns-one.result c.second-other.result a.out.now (omega (arith, c.if-out-lt-JUDGEMENT.false))
          ∙ ap₂ (λ (x y : ℕ). wide (x ∷ y ∷ []) ++ drop JUDGEMENT a.out.now) (c.concerns-one.ensures ∙ ap concerns (judged (goal.at.returns c).After-judge-j)) (c.second-other.ensures ∙ ap second (judged (goal.at.returns c).After-judge-j)),
    )
