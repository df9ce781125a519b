-- `desk::verdicts::wheelotter_verdict`: a text that is turned back, then no such model, then too short a buffer, then the verdict.
use mathlib.Core.Path.{◌≡◌, sym, ap, ◌∙◌, subst}
use Prim.Native.Nat.{◌≤◌}
use native.Mathlib.Omega.{arith}
use Rattle.trace.specs.Bounds.{RECORDS}
use Rattle.reader.specs.Whole.{read_whole}
use Rattle.reader.specs.declared.Reading.{Reading}
use Rattle.reader.proofs.Whole.{whole-well}
use Rattle.verdict.specs.VerdictOf.{Told}
use Rattle.verdict.specs.declared.Verdict.{Verdict}
use Rattle.desk.specs.Text.{number_in, text_number}
use Rattle.desk.specs.VerdictBytes.{VERDICT}
use Rattle.desk.proofs.Ranked.{ranked-wrong, ranked-model, ranked-short}
use Rattle.desk.proofs.Spelling.{spelled-fits, source-below, told-good}
use Rattle.desk.proofs.verdicts.wheelotter_verdict.Goals.{After-number_in-wrong, After-verdict_of-verdict}
use Rattle.desk.proofs.verdicts.wheelotter_verdict.Goals as goal

-- the number in what the reader answers
numbered : (c : After-number_in-wrong) → c.number_in-wrong.result ≡ text_number c.args.text.now
numbered c = c.number_in-wrong.ensures ∙ ap (λ (r : Reading). number_in r.answer) c.read_whole-reading.ensures

pub returns-then-wrong-gt0 : goal.returns-then-wrong-gt0
returns-then-wrong-gt0 c =
    let a = c.args in
    rw (numbered (goal.at.returns-then-wrong-gt0 c).After-number_in-wrong) (ranked-wrong a.text.now a.model VERDICT _ a.out.now (omega (arith, numbered (goal.at.returns-then-wrong-gt0 c).After-number_in-wrong, c.if-wrong-gt0.true)))

pub returns-then-not-modelled : goal.returns-then-not-modelled
returns-then-not-modelled c =
    let a = c.args in
    ranked-model a.text.now a.model VERDICT _ a.out.now (omega (arith, numbered (goal.at.returns-then-not-modelled c).After-number_in-wrong, c.if-wrong-gt0.false)) (sym c.modelled.ensures ∙ c.if-not-modelled.true)

pub returns-then-out-lt-VERDICT : goal.returns-then-out-lt-VERDICT
returns-then-out-lt-VERDICT c =
    let a = c.args in
    ranked-short a.text.now a.model VERDICT _ a.out.now (omega (arith, numbered (goal.at.returns-then-out-lt-VERDICT c).After-number_in-wrong, c.if-wrong-gt0.false)) (sym c.modelled.ensures ∙ c.if-not-modelled.false) c.if-out-lt-VERDICT.true

-- the verdict on the trace that the text writes
told : (c : After-verdict_of-verdict) → let a = c.args in Told (read_whole a.text.now).trace a.model c.verdict_of-verdict.result
told c =
    let a = c.args in
    subst (λ (r : Reading). Told r.trace a.model c.verdict_of-verdict.result) c.read_whole-reading.ensures c.verdict_of-verdict.ensures

pub spelled-requires : goal.spelled-requires
spelled-requires c =
    let a = c.args in
    source-below a.model (read_whole a.text.now).trace (whole-well a.text.now) c.verdict_of-verdict.result (told c)

pub lay-requires : goal.lay-requires
lay-requires c = (
  subst (λ (c : Verdict). c.len ≤ RECORDS) (sym c.spelled.ensures) (spelled-fits c.verdict_of-verdict.result c.verdict_of-verdict.ensures.fits),
  omega (arith, c.if-out-lt-VERDICT.false),
)

pub returns : goal.returns
returns c =
    let a = c.args in
    rw (c.outcome_number.ensures, c.lay.ensures, c.spelled.ensures)
    (told-good a.text.now a.model a.out.now (omega (arith, numbered (goal.at.returns c).After-number_in-wrong, c.if-wrong-gt0.false)) (sym c.modelled.ensures ∙ c.if-not-modelled.false) (omega (arith, c.if-out-lt-VERDICT.false)) c.verdict_of-verdict.result (told (goal.at.returns c).After-verdict_of-verdict))
