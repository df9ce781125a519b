-- `desk::limits::wheelotter_limited`: a text that is turned back, then no such model, then too short a buffer, then the answer at the limit.
use mathlib.Core.Path.{◌≡◌, sym, ap, ◌∙◌, subst}
use mathlib.Core.List.{List, ◌++◌}
use Prim.Native.Nat.{ℕ, ◌≤◌, ◌<◌}
use native.Mathlib.Omega.{arith}
use lib.ListN.{length, drop, length-append, length-drop}
use Rattle.trace.specs.Bounds.{RECORDS}
use Rattle.text.specs.Room.{put_at}
use Rattle.reader.specs.Whole.{read_whole}
use Rattle.reader.specs.declared.Reading.{Reading}
use Rattle.reader.proofs.Whole.{whole-well}
use Rattle.verdict.specs.declared.Verdict.{Verdict}
use Rattle.limited.specs.LimitedVerdict.{ToldLimited}
use Rattle.desk.specs.Text.{number_in, text_number}
use Rattle.desk.specs.VerdictBytes.{VERDICT}
use Rattle.desk.specs.inner.SpelledVerdict.{lacking, spelled, laid_out}
use Rattle.desk.specs.Limits.{LIMITED, eight, shown}
use Rattle.desk.proofs.Ranked.{ranked-wrong, ranked-model, ranked-short}
use Rattle.desk.proofs.Spelling.{spelled-fits}
use Rattle.desk.proofs.Limiting.{shown-below, laid-behind, limited-good}
use Rattle.desk.proofs.limits.wheelotter_limited.Goals.{After-limited_verdict-limited, After-number_in-wrong}
use Rattle.desk.proofs.limits.wheelotter_limited.Goals as goal

-- the number in what the reader answers
numbered : (c : After-number_in-wrong) → c.number_in-wrong.result ≡ text_number c.args.text.now
numbered c = c.number_in-wrong.ensures ∙ ap (λ (r : Reading). number_in r.answer) c.read_whole-reading.ensures

-- the answer on the trace that the text writes
told : (c : After-limited_verdict-limited)
    → let a = c.args in ToldLimited (read_whole a.text.now).trace a.model a.limit c.limited_verdict-limited.result
told c =
    let a = c.args in
    subst (λ (r : Reading). ToldLimited r.trace a.model a.limit c.limited_verdict-limited.result) c.read_whole-reading.ensures c.limited_verdict-limited.ensures

pub returns-then-wrong-gt0 : goal.returns-then-wrong-gt0
returns-then-wrong-gt0 c =
    let a = c.args in
    rw (numbered (goal.at.returns-then-wrong-gt0 c).After-number_in-wrong) (ranked-wrong a.text.now a.model LIMITED _ a.out.now (omega (arith, numbered (goal.at.returns-then-wrong-gt0 c).After-number_in-wrong, c.if-wrong-gt0.true)))

pub returns-then-not-modelled : goal.returns-then-not-modelled
returns-then-not-modelled c =
    let a = c.args in
    ranked-model a.text.now a.model LIMITED _ a.out.now (omega (arith, numbered (goal.at.returns-then-not-modelled c).After-number_in-wrong, c.if-wrong-gt0.false)) (sym c.modelled.ensures ∙ c.if-not-modelled.true)

pub returns-then-out-lt-LIMITED : goal.returns-then-out-lt-LIMITED
returns-then-out-lt-LIMITED c =
    let a = c.args in
    ranked-short a.text.now a.model LIMITED _ a.out.now (omega (arith, numbered (goal.at.returns-then-out-lt-LIMITED c).After-number_in-wrong, c.if-wrong-gt0.false)) (sym c.modelled.ensures ∙ c.if-not-modelled.false) c.if-out-lt-LIMITED.true

pub spelled-requires : goal.spelled-requires
spelled-requires c =
    let a = c.args in
    subst (λ (w : Verdict). lacking w.outcome < RECORDS) (sym c.shown.ensures) (shown-below a.model (read_whole a.text.now).trace (whole-well a.text.now) a.limit c.limited_verdict-limited.result (told (goal.at.spelled-requires c).After-limited_verdict-limited))

pub lay-requires : goal.lay-requires
lay-requires c =
    let h = subst (λ (w : Verdict). w.len ≤ RECORDS) (sym c.shown.ensures) c.limited_verdict-limited.ensures.fits in (
      subst (λ (w : Verdict). w.len ≤ RECORDS) (sym c.spelled.ensures) (spelled-fits c.shown.result h),
      omega (arith, c.if-out-lt-LIMITED.false),
    )

pub returns : goal.returns
returns c =
    let a = c.args in
    let r = c.limited_verdict-limited.result in
    let bytes : List ℕ = laid_out (spelled (shown r)) in
    let before : List ℕ = a.out.now in
    let e₁ : c.lay.new.out ≡ bytes ++ drop VERDICT before =
    c.lay.ensures ∙ ap (λ (w : Verdict). laid_out w ++ drop VERDICT before) (c.spelled.ensures ∙ ap spelled c.shown.ensures) in
    let long : length bytes ≡ VERDICT = omega (arith, ap length e₁, c.lay.auto.out, length-append bytes (drop VERDICT before), length-drop VERDICT before, c.if-out-lt-LIMITED.false) in
    let e₂ = c.lay_steps.ensures ∙ ap (λ (o : List ℕ). put_at (eight r.steps) o VERDICT) e₁ ∙ laid-behind bytes before r.steps long (omega (arith, c.if-out-lt-LIMITED.false)) in
    rw (c.limit_number.ensures, e₂)
    (limited-good a.text.now a.model a.limit before (omega (arith, numbered (goal.at.returns c).After-number_in-wrong, c.if-wrong-gt0.false)) (sym c.modelled.ensures ∙ c.if-not-modelled.false) (omega (arith, c.if-out-lt-LIMITED.false)) r (told (goal.at.returns c).After-limited_verdict-limited))
