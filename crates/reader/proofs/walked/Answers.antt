-- `reader::walked`: what the lines from here on say behind the trace so far is what all lines say.
use mathlib.Core.Path.{◌≡◌, refl, sym, ap, ◌∙◌}
use mathlib.Core.List.{List, ◌∷◌}
use Prim.Native.Nat.{ℕ, ◌+◌, ◌≤◌}
use native.Mathlib.Omega.{arith}
use lib.Dec.{ltb}
use borrow.Author.Tests.{le-ltb}
use lib.ListN.{length, drop}
use Rattle.trace.specs.Bounds.{RECORDS}
use Rattle.trace.specs.Trace.{empty, pushed}
use Rattle.trace.proofs.Places.{pushed_room}
use Rattle.text.specs.Lines.{Line, lines, line_at, end_at}
use Rattle.trace.specs.declared.Trace.{Trace}
use Rattle.reader.specs.Answer.{turned}
use Rattle.reader.specs.BadLine.{passed, line_start, line_end}
use Rattle.reader.specs.Read.{none, read_lines, read_inits}
use Rattle.reader.specs.declared.Answer.TheVariants.{Refused}
use Rattle.text.proofs.Lines.{lines-on, lines-over, line-part, end-within}
use Rattle.reader.proofs.Walks.{read_taken, read-refused}
use Rattle.reader.proofs.BadLine.{start-on, end-told}
use Rattle.reader.proofs.walked.Goals.{After-line_end-end, After-turned, Joined-n-lt-RECORDS, else-n-lt-RECORDS, then-n-lt-RECORDS}
use Rattle.reader.proofs.walked.Goals as goal

pub loop-at-init : goal.loop-at-init
loop-at-init c = c.opened-opening.ensures

-- the line ends in the text
inside : (c : After-line_end-end) → c.line_end-end.result ≤ length c.args.text.now
inside c = omega (arith, end-within c.args.text.now c.loop-at.at (omega arith), c.line_end-end.ensures)

-- the line as it was handed on
here : List ℕ → ℕ → Line
here t at = record { bytes = line_at t at; ended = ltb (end_at t at) (length t) }

behind : List ℕ → ℕ → List Line
behind t at = lines (drop (end_at t at + 1) t)

-- the line that is handed on is the one at the place
said : (c : After-turned) → c.turned.result ≡ turned c.loop-at.trace (here c.args.text.now c.loop-at.at)
unfolding here
said c =
    let t = c.args.text.now in
    c.turned.ensures
    ∙ ap (turned c.loop-at.trace) (λ k. record { bytes = line-part t c.loop-at.at c.line_end-end.result c.line_end-end.ensures k; ended = ltb (c.line_end-end.ensures k) (length t) })

-- the lines from the place on, and what they say
whole-read : (c : After-line_end-end) → read_lines c.loop-at.line c.loop-at.trace (here c.args.text.now c.loop-at.at ∷ behind c.args.text.now c.loop-at.at) ≡ read_inits 1 none empty (lines c.args.text.now)
unfolding here behind
whole-read c =
    let t = c.args.text.now in
    ap (read_lines c.loop-at.line c.loop-at.trace) (sym (lines-on t c.loop-at.at (omega arith))) ∙ c.loop-at.invariant.3

-- the line starts where its number says
starts : (c : After-line_end-end) → c.loop-at.at ≡ line_start c.args.text.now c.loop-at.line
starts c = c.loop-at.invariant.2 (omega arith)

pub returns-in-Err : goal.returns-in-Err
unfolding here
returns-in-Err c =
    let q = sym (said (goal.at.returns-in-Err c).After-turned) ∙ c.in-Err.is in (
      ap (λ (t : Trace). record { answer = Refused c.in-Err.reason c.loop-at.line; trace = t }) c.empty-trace.ensures ∙ sym (read-refused c.loop-at.trace (here c.args.text.now c.loop-at.at) (behind c.args.text.now c.loop-at.at) c.in-Err.reason q c.loop-at.line) ∙ whole-read (goal.at.returns-in-Err c).After-line_end-end,
      starts (goal.at.returns-in-Err c).After-line_end-end,
      end-told c.args.text.now c.loop-at.line c.loop-at.at c.line_end-end.result c.loop-at.invariant.1 (starts (goal.at.returns-in-Err c).After-line_end-end) c.line_end-end.ensures,
    )

pub slice_bounds-turned-end : goal.slice_bounds-turned-end
slice_bounds-turned-end c = inside (goal.at.slice_bounds-turned-end c).After-line_end-end

pub overflow_add-at : goal.overflow_add-at
overflow_add-at c = let i = inside (goal.at.overflow_add-at c).After-line_end-end in omega arith

pub loop-at-smaller : goal.loop-at-smaller
loop-at-smaller c = let i = inside (goal.at.loop-at-smaller c).After-line_end-end in let e = c.line_end-end.ensures in omega arith

-- the trace with the record behind it
grown : (c : Joined-n-lt-RECORDS) → c.if-n-lt-RECORDS.trace ≡ pushed c.loop-at.trace c.in-Ok.op
unfolding pushed
grown c =
    (elim c.if-n-lt-RECORDS.branch [ then-n-lt-RECORDS w ↦ w.trace-is ∙ sym (pushed_room c.loop-at.trace c.in-Ok.op w.if-n-lt-RECORDS.true) | else-n-lt-RECORDS w ↦ w.trace-is ∙ simp (le-ltb c.loop-at.trace.len RECORDS w.if-n-lt-RECORDS.false) ])

pub loop-at-preserved : goal.loop-at-preserved
unfolding behind
loop-at-preserved c =
    let t = c.args.text.now in
    let q = sym (said (goal.at.loop-at-preserved c).After-turned) ∙ c.in-Ok.is in
    let same : lines (drop (c.line_end-end.result + 1) t) ≡ behind c.args.text.now c.loop-at.at = ap (λ (n : ℕ). lines (drop (n + 1) t)) c.line_end-end.ensures in (
      omega (arith, c.line_end-end.ensures),
      omega arith,
      start-on t c.loop-at.line c.loop-at.at c.line_end-end.result c.loop-at.invariant.1 (starts (goal.at.loop-at-preserved c).After-line_end-end) c.line_end-end.ensures,
      rw (grown c, same) (sym (read_taken c.loop-at.trace (here c.args.text.now c.loop-at.at) (behind c.args.text.now c.loop-at.at) c.in-Ok.op q c.loop-at.line) ∙ whole-read (goal.at.loop-at-preserved c).After-line_end-end),
    )

pub returns : goal.returns
unfolding read_lines passed line_end
returns c =
    let t = c.args.text.now in
    let o = lines-over t c.loop-at.at (omega arith) in (
      ap (read_lines c.loop-at.line c.loop-at.trace) (sym o) ∙ c.loop-at.invariant.3,
      refl,
      refl,
    )
