-- `desk::runs::wheelotter_run`: a text that is turned back, then no machine, then too short a buffer, then how the run ends.
use mathlib.Core.Path.{◌≡◌, sym, ap, ◌∙◌}
use mathlib.Core.Bool.{true, false}
use mathlib.Core.List.{[], ◌∷◌, ◌++◌}
use Prim.Native.Nat.{ℕ, ◌≤◌}
use native.Mathlib.Omega.{arith}
use lib.ListN.{drop}
use Rattle.reader.specs.Whole.{read_whole}
use Rattle.reader.specs.declared.Reading.{Reading}
use Rattle.machine.specs.Machine.{answer, stuck_at}
use Rattle.machine.specs.Replay.{STEPS}
use Rattle.machine.proofs.Equal.{place-below}
use Rattle.desk.specs.Text.{number_in, text_number}
use Rattle.desk.specs.VerdictBytes.{wide}
use Rattle.desk.specs.Runs.{PLACE, ran_number, hosted}
use Rattle.desk.proofs.Ranked.{ranked-wrong, ranked-model, ranked-short, ranked-says}
use Rattle.desk.proofs.Hosted.{hosted-is, place-laid}
use borrow.Author.Rules.{rules}
use Rattle.desk.proofs.runs.wheelotter_run.Goals.{After-number_in-wrong, After-run-ran}
use Rattle.desk.proofs.runs.wheelotter_run.Goals as goal

-- the number in what the reader answers
numbered : (c : After-number_in-wrong) → c.number_in-wrong.result ≡ text_number c.args.text.now
numbered c = c.number_in-wrong.ensures ∙ ap (λ (r : Reading). number_in r.answer) c.read_whole-reading.ensures

pub returns-then-wrong-gt0 : goal.returns-then-wrong-gt0
returns-then-wrong-gt0 c =
    let a = c.args in
    rw (numbered (goal.at.returns-then-wrong-gt0 c).After-number_in-wrong) (ranked-wrong a.text.now (hosted a.model) PLACE _ a.out.now (omega (arith, numbered (goal.at.returns-then-wrong-gt0 c).After-number_in-wrong, c.if-wrong-gt0.true)))

pub returns-then-not-machined : goal.returns-then-not-machined
returns-then-not-machined c =
    let a = c.args in
    ranked-model a.text.now (hosted a.model) PLACE _ a.out.now (omega (arith, numbered (goal.at.returns-then-not-machined c).After-number_in-wrong, c.if-wrong-gt0.false)) (hosted-is a.model false (sym c.machined.ensures ∙ c.if-not-machined.true))

pub returns-then-out-lt-PLACE : goal.returns-then-out-lt-PLACE
returns-then-out-lt-PLACE c =
    let a = c.args in
    ranked-short a.text.now (hosted a.model) PLACE _ a.out.now (omega (arith, numbered (goal.at.returns-then-out-lt-PLACE c).After-number_in-wrong, c.if-wrong-gt0.false)) (hosted-is a.model true (sym c.machined.ensures ∙ c.if-not-machined.false)) c.if-out-lt-PLACE.true

-- how the steps run the trace that the text writes
ran : (c : After-run-ran) → let a = c.args in c.run-ran.result ≡ answer (read_whole a.text.now).trace a.model a.steps.now
ran c =
    let a = c.args in
    c.run-ran.ensures ∙ ap (λ (r : Reading). answer r.trace a.model a.steps.now) c.read_whole-reading.ensures

pub overflow_cast-place : goal.overflow_cast-place
overflow_cast-place c =
    let a = c.args in
    let small : c.place_of-place.result ≤ STEPS = rw (c.place_of-place.ensures, ran (goal.at.overflow_cast-place c).After-run-ran) (place-below (read_whole a.text.now).trace a.model a.steps.now) in
    search rules

pub returns : goal.returns
returns c =
    let a = c.args in
    ranked-says a.text.now (hosted a.model) PLACE _ a.out.now (omega (arith, numbered (goal.at.returns c).After-number_in-wrong, c.if-wrong-gt0.false)) (hosted-is a.model true (sym c.machined.ensures ∙ c.if-not-machined.false))
    (omega (arith, c.if-out-lt-PLACE.false)) _ _ (
      c.ran_number.ensures ∙ ap ran_number (ran (goal.at.returns c).After-run-ran),
      c.put_wide.ensures
          ∙ place-laid c.place_of-place.result a.out.now (omega (arith, c.if-out-lt-PLACE.false))
          ∙ ap (λ (x : ℕ). wide (x ∷ []) ++ drop PLACE a.out.now) (c.place_of-place.ensures ∙ ap stuck_at (ran (goal.at.returns c).After-run-ran)),
    )
