-- `desk::runs::wheelotter_steps`: a text that is turned back, then no machine, then too short a buffer, then the steps of the order.
use mathlib.Core.Path.{◌≡◌, sym, ap, ◌∙◌, subst}
use mathlib.Core.Bool.{true, false}
use mathlib.Core.List.{◌++◌}
use Prim.Native.Nat.{◌≤◌}
use native.Mathlib.Omega.{arith}
use lib.ListN.{drop}
use Rattle.reader.specs.Whole.{read_whole}
use Rattle.reader.specs.declared.Reading.{Reading}
use Rattle.machine.specs.Replay.{STEPS, steps_of}
use Rattle.machine.specs.declared.Steps.{Steps}
use Rattle.machine.proofs.Few.{steps-few}
use Rattle.desk.specs.Text.{number_in, text_number}
use Rattle.desk.specs.Runs.{REPLAY, given_number, spread, hosted}
use Rattle.desk.proofs.Ranked.{ranked-wrong, ranked-model, ranked-short, ranked-says}
use Rattle.desk.proofs.Hosted.{hosted-is}
use Rattle.desk.proofs.runs.wheelotter_steps.Goals.{After-number_in-wrong, After-steps_of-s}
use Rattle.desk.proofs.runs.wheelotter_steps.Goals as goal

-- the number in what the reader answers
numbered : (c : After-number_in-wrong) → c.number_in-wrong.result ≡ text_number c.args.text.now
numbered c = c.number_in-wrong.ensures ∙ ap (λ (r : Reading). number_in r.answer) c.read_whole-reading.ensures

pub returns-then-wrong-gt0 : goal.returns-then-wrong-gt0
returns-then-wrong-gt0 c =
    let a = c.args in
    rw (numbered (goal.at.returns-then-wrong-gt0 c).After-number_in-wrong) (ranked-wrong a.text.now (hosted a.model) REPLAY _ a.out.now (omega (arith, numbered (goal.at.returns-then-wrong-gt0 c).After-number_in-wrong, c.if-wrong-gt0.true)))

pub returns-then-not-machined : goal.returns-then-not-machined
returns-then-not-machined c =
    let a = c.args in
    ranked-model a.text.now (hosted a.model) REPLAY _ a.out.now (omega (arith, numbered (goal.at.returns-then-not-machined c).After-number_in-wrong, c.if-wrong-gt0.false)) (hosted-is a.model false (sym c.machined.ensures ∙ c.if-not-machined.true))

pub returns-then-out-lt-REPLAY : goal.returns-then-out-lt-REPLAY
returns-then-out-lt-REPLAY c =
    let a = c.args in
    ranked-short a.text.now (hosted a.model) REPLAY _ a.out.now (omega (arith, numbered (goal.at.returns-then-out-lt-REPLAY c).After-number_in-wrong, c.if-wrong-gt0.false)) (hosted-is a.model true (sym c.machined.ensures ∙ c.if-not-machined.false)) c.if-out-lt-REPLAY.true

-- the steps of the order for the trace that the text writes
built : (c : After-steps_of-s) → let a = c.args in c.steps_of-s.result ≡ steps_of (read_whole a.text.now).trace a.model a.order.now
built c =
    let a = c.args in
    c.steps_of-s.ensures ∙ ap (λ (r : Reading). steps_of r.trace a.model a.order.now) c.read_whole-reading.ensures

pub lay-requires : goal.lay-requires
lay-requires c =
    let a = c.args in (
      subst (λ (s : Steps). s.len ≤ STEPS) (sym (built (goal.at.lay-requires c).After-steps_of-s)) (steps-few (read_whole a.text.now).trace a.model a.order.now),
      omega (arith, c.if-out-lt-REPLAY.false),
    )

pub returns : goal.returns
returns c =
    let a = c.args in
    ranked-says a.text.now (hosted a.model) REPLAY _ a.out.now (omega (arith, numbered (goal.at.returns c).After-number_in-wrong, c.if-wrong-gt0.false)) (hosted-is a.model true (sym c.machined.ensures ∙ c.if-not-machined.false))
    (omega (arith, c.if-out-lt-REPLAY.false)) _ _ (
      c.given_number.ensures ∙ ap (λ (s : Steps). given_number s.given) (built (goal.at.returns c).After-steps_of-s),
      c.lay.ensures ∙ ap (λ (s : Steps). spread s ++ drop REPLAY a.out.now) (built (goal.at.returns c).After-steps_of-s),
    )
