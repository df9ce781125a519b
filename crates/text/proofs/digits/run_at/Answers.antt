-- `text::digits::run_at`: the run seen from `i` behind the number so far is the run at `at`.
use mathlib.Core.Path.{◌≡◌, sym, ap, ◌∙◌}
use mathlib.Core.Bool.{true}
use Prim.Native.Nat.{◌+◌, max}
use native.Mathlib.Omega.{arith}
use native.Mathlib.Decide.{dec_lt}
use lib.ListN.{length, get_or}
use Rattle.text.specs.Number.{is_digit}
use Rattle.text.specs.declared.Run.{Run}
use Rattle.text.proofs.Numbers.{digits-none, run_from, run_on, run-stop, run_none}
use Rattle.text.proofs.Decimal.{digit-iff}
use Rattle.text.proofs.digits.run_at.Goals.{After-loop-i, Else-not-is_digit}
use Rattle.text.proofs.digits.run_at.Goals as goal

pub returns-then-not-is_digit : goal.returns-then-not-is_digit
returns-then-not-is_digit c =
    let s = c.args.line.now in
    run-stop s c.loop-i.i c.loop-i.value c.loop-i.invariant.0 (omega arith) (sym c.is_digit.ensures ∙ c.if-not-is_digit.true) ∙ c.loop-i.invariant.1

-- past the test the byte is a digit
here : (c : Else-not-is_digit) → is_digit (get_or c.args.line.now c.loop-i.i 0) ≡ true
here c = sym c.is_digit.ensures ∙ c.if-not-is_digit.false

pub with_digit-value-requires : goal.with_digit-value-requires
with_digit-value-requires c = (c.loop-i.invariant.0, (digit-iff.0 (here c)).0, (digit-iff.0 (here c)).1)

pub loop-i-preserved : goal.loop-i-preserved
loop-i-preserved c =
    let s = c.args.line.now in (
      omega (arith, c.with_digit-value.ensures),
      ap (run_from s (c.loop-i.i + 1)) c.with_digit-value.ensures ∙ run_on s c.loop-i.i c.loop-i.value (omega arith) (here (goal.at.loop-i-preserved c).Else-not-is_digit) ∙ c.loop-i.invariant.1,
    )

-- the loop ends at the end of the text, or where it began behind it
ended : (c : After-loop-i) → c.loop-i.i ≡ max c.args.at (length c.args.line.now)
ended c =
    let s = c.args.line.now in
    let whole = run_none s c.loop-i.i c.loop-i.value c.loop-i.invariant.0 (omega arith) ∙ c.loop-i.invariant.1 in
    elim (dec_lt (length s) c.args.at) [
      | yes h ↦ let e = ap (λ (r : Run). r.end) whole in let f = ap length (digits-none s c.args.at (omega arith)) in omega arith
      | no h ↦ omega arith
    ]

pub returns : goal.returns
returns c =
    let e : c.max.result ≡ c.loop-i.i = omega (arith, ended (goal.at.returns c).After-loop-i) in
    rw e (run_none c.args.line.now c.loop-i.i c.loop-i.value c.loop-i.invariant.0 (omega arith) ∙ c.loop-i.invariant.1)
