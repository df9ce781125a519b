-- `reader::opened`: what the lines from here on say behind the init lines so far is what all lines say.
use mathlib.Core.Path.{◌≡◌, refl, sym, ap, ◌∙◌}
use mathlib.Core.List.{List, ◌∷◌}
use Prim.Native.Nat.{ℕ, ◌+◌, ◌≤◌}
use native.Mathlib.Omega.{arith}
use lib.Dec.{ltb}
use lib.ListN.{length, drop}
use Rattle.trace.specs.Trace.{empty, started}
use Rattle.text.specs.Lines.{Line, lines, line_at, end_at}
use Rattle.text.proofs.Lines.{lines-on, lines-over, line-part, end-within}
use Rattle.reader.specs.Answer.{init_given}
use Rattle.reader.specs.BadLine.{passed}
use Rattle.reader.specs.Read.{none, read_lines, read_inits}
use Rattle.reader.proofs.Begins.{Good, begins-good}
use Rattle.reader.proofs.Walks.{read-begun, read_left}
use Rattle.reader.proofs.BadLine.{start-on}
use Rattle.reader.proofs.opened.Goals.{After-begin, After-line_end-end, In-Some}
use Rattle.reader.proofs.opened.Goals as goal

pub loop-at-init : goal.loop-at-init
unfolding passed
loop-at-init c = let e = c.empty-trace.ensures in (omega arith, omega arith, λ _. refl, rw e refl)

-- the line ends in the text
inside : (c : After-line_end-end) → c.line_end-end.result ≤ length c.args.text.now
inside c = omega (arith, end-within c.args.text.now c.loop-at.at (omega arith), c.line_end-end.ensures)

-- the line as it was handed on
here : List ℕ → ℕ → Line
here t at = record { bytes = line_at t at; ended = ltb (end_at t at) (length t) }

behind : List ℕ → ℕ → List Line
behind t at = lines (drop (end_at t at + 1) t)

-- the line that is handed on is the one at the place
said : (c : After-begin) → c.begin.result ≡ init_given c.loop-at.given (here c.args.text.now c.loop-at.at)
unfolding here
said c =
    let t = c.args.text.now in
    c.begin.ensures
    ∙ ap (init_given c.loop-at.given) (λ k. record { bytes = line-part t c.loop-at.at c.line_end-end.result c.line_end-end.ensures k; ended = ltb (c.line_end-end.ensures k) (length t) })

-- the lines from the place on, and what they say
whole-read : (c : After-line_end-end) → read_inits c.loop-at.line c.loop-at.given c.loop-at.trace (here c.args.text.now c.loop-at.at ∷ behind c.args.text.now c.loop-at.at) ≡ read_inits 1 none empty (lines c.args.text.now)
unfolding here behind
whole-read c =
    let t = c.args.text.now in
    ap (read_inits c.loop-at.line c.loop-at.given c.loop-at.trace) (sym (lines-on t c.loop-at.at (omega arith))) ∙ c.loop-at.invariant.3

pub returns-in_default : goal.returns-in_default
unfolding here behind
returns-in_default c =
    let t = c.args.text.now in
    let q = sym (said (goal.at.returns-in_default c).After-begin) ∙ c.in_default.is in (
      c.loop-at.invariant.0,
      c.loop-at.invariant.1,
      c.loop-at.invariant.2,
      ap (read_lines c.loop-at.line c.loop-at.trace) (lines-on t c.loop-at.at (omega arith)) ∙ sym (read_left c.loop-at.trace (here c.args.text.now c.loop-at.at) (behind c.args.text.now c.loop-at.at) c.loop-at.given q c.loop-at.line) ∙ whole-read (goal.at.returns-in_default c).After-line_end-end,
    )

-- the line gives a first value
gives : (c : In-Some) → Good c.loop-at.given (here c.args.text.now c.loop-at.at) c.in-Some.field-0.addr c.in-Some.field-0.value
unfolding here
gives c =
    let t = c.args.text.now in
    let said = c.begin.ensures ∙ ap (init_given c.loop-at.given) (λ k. record { bytes = line-part t c.loop-at.at c.line_end-end.result c.line_end-end.ensures k; ended = ltb (c.line_end-end.ensures k) (length t) }) in
    begins-good c.loop-at.given (here t c.loop-at.at) _ _ (sym said ∙ c.in-Some.is)

pub bounds-given-i : goal.bounds-given-i
bounds-given-i c = omega (arith, (gives (goal.at.bounds-given-i c).In-Some).address)

pub overflow_cast-trace : goal.overflow_cast-trace
overflow_cast-trace c = omega (arith, (gives (goal.at.overflow_cast-trace c).In-Some).value)

pub bounds-trace-i : goal.bounds-trace-i
bounds-trace-i c = omega (arith, (gives (goal.at.bounds-trace-i c).In-Some).address)

pub slice_bounds-begin-end : goal.slice_bounds-begin-end
slice_bounds-begin-end c = inside (goal.at.slice_bounds-begin-end c).After-line_end-end

pub overflow_add-at : goal.overflow_add-at
overflow_add-at c = let i = inside (goal.at.overflow_add-at c).After-line_end-end in omega arith

pub loop-at-smaller : goal.loop-at-smaller
loop-at-smaller c = let i = inside (goal.at.loop-at-smaller c).After-line_end-end in let h = c.line_end-end.ensures in omega arith

pub loop-at-preserved : goal.loop-at-preserved
unfolding behind started
loop-at-preserved c =
    let t = c.args.text.now in
    let q = sym (said (goal.at.loop-at-preserved c).After-begin) ∙ c.in-Some.is in
    let same : lines (drop (c.line_end-end.result + 1) t) ≡ behind c.args.text.now c.loop-at.at = ap (λ (n : ℕ). lines (drop (n + 1) t)) c.line_end-end.ensures in (
      omega (arith, c.line_end-end.ensures),
      omega arith,
      start-on t c.loop-at.line c.loop-at.at c.line_end-end.result c.loop-at.invariant.1 (c.loop-at.invariant.2 (omega arith)) c.line_end-end.ensures,
      rw same (sym (read-begun c.loop-at.trace (here c.args.text.now c.loop-at.at) (behind c.args.text.now c.loop-at.at) c.loop-at.given c.in-Some.field-0.addr c.in-Some.field-0.value q c.loop-at.line) ∙ whole-read (goal.at.loop-at-preserved c).After-line_end-end),
    )

pub returns : goal.returns
unfolding read_lines read_inits
returns c =
    let t = c.args.text.now in
    let o = lines-over t c.loop-at.at (omega arith) in (
      c.loop-at.invariant.0,
      c.loop-at.invariant.1,
      c.loop-at.invariant.2,
      ap (read_lines c.loop-at.line c.loop-at.trace) o ∙ ap (read_inits c.loop-at.line c.loop-at.given c.loop-at.trace) (sym o) ∙ c.loop-at.invariant.3,
    )
