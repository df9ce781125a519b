-- `reader::forms::form`: the thread and its colon, then what stands behind them.
use mathlib.Core.Path.{◌≡◌, sym, ap, ◌∙◌}
use mathlib.Core.Bool.{◌&&◌}
use Prim.Native.Nat.{ℕ, ◌+◌}
use native.Mathlib.Nat.{zero-add}
use native.Mathlib.Omega.{arith}
use lib.ListN.{length, drop}
use lib.Seq.{drop-drop}
use Rattle.text.specs.Number.{digits, value, cut}
use Rattle.text.specs.Template.{begins}
use Rattle.reader.specs.LineForms.{cut_form}
use Rattle.reader.specs.inner.AfterThread.{behind_of}
use Rattle.text.proofs.Numbers.{number-known, number-unknown}
use Rattle.reader.proofs.Chosen.{thread-cut, colon-inside, no-thread, no-colon, with-thread}
use Rattle.reader.proofs.forms.form.Goals.{After-colon_at}
use Rattle.reader.proofs.forms.form.Goals as goal

pub returns-in_err-thread : goal.returns-in_err-thread
returns-in_err-thread c =
    let line = c.args.line.now in
    c.from_residual.ensures ∙ sym (ap cut_form (no-thread line (number-unknown line 0 (sym c.in_err-thread.was ∙ c.number_at.ensures))))

-- the number that was found, and where it ends
known : (c : After-colon_at) → (c.in_ok-thread.thread.value ≡ cut (value 0 (digits c.args.line.now))) × (c.in_ok-thread.thread.end ≡ length (digits c.args.line.now))
known c =
    let k = number-known c.args.line.now 0 (sym c.in_ok-thread.was ∙ c.number_at.ensures) in
    (k.1, k.2 ∙ zero-add (length (digits c.args.line.now)))

colon : (c : After-colon_at) → c.colon_at.result ≡ (begins 58 (drop (length (digits c.args.line.now)) c.args.line.now) && begins 32 (drop 1 (drop (length (digits c.args.line.now)) c.args.line.now)))
colon c = c.colon_at.ensures ∙ ap (λ (e : ℕ). begins 58 (drop e c.args.line.now) && begins 32 (drop 1 (drop e c.args.line.now))) (known c).1

pub overflow_add-thread : goal.overflow_add-thread
overflow_add-thread c = omega (arith, colon-inside c.args.line.now (length (digits c.args.line.now)) (sym (colon (goal.at.overflow_add-thread c).After-colon_at) ∙ c.if-colon_at.true), (known (goal.at.overflow_add-thread c).After-colon_at).1)

pub behind-requires : goal.behind-requires
behind-requires c = omega (arith, (known (goal.at.behind-requires c).After-colon_at).0)

pub returns-then-colon_at : goal.returns-then-colon_at
returns-then-colon_at c =
    let line = c.args.line.now in
    let rest = drop (length (digits line)) line in
    let same : drop (c.in_ok-thread.thread.end + 2) line ≡ drop 1 (drop 1 rest) =
    ap (λ (i : ℕ). drop i line) (let q : c.in_ok-thread.thread.end + 2 ≡ length (digits line) + 1 + 1 = omega (arith, (known (goal.at.returns-then-colon_at c).After-colon_at).1) in q)
    ∙ sym (drop-drop 1 (length (digits line) + 1) line) ∙ ap (drop 1) (sym (drop-drop 1 (length (digits line)) line)) in
    c.behind.ensures
    ∙ ap (behind_of c.in_ok-thread.thread.value) same
    ∙ ap (λ (v : ℕ). behind_of v (drop 1 (drop 1 rest))) (known (goal.at.returns-then-colon_at c).After-colon_at).0
    ∙ thread-cut (value 0 (digits line)) (drop 1 (drop 1 rest))
    ∙ sym (ap cut_form (with-thread line (number-known line 0 (sym c.in_ok-thread.was ∙ c.number_at.ensures)).0 (sym (colon (goal.at.returns-then-colon_at c).After-colon_at) ∙ c.if-colon_at.true)))

pub returns : goal.returns
returns c =
    sym (ap cut_form (no-colon c.args.line.now (sym (colon (goal.at.returns c).After-colon_at) ∙ c.if-colon_at.false)))
