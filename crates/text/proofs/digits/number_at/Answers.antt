-- `text::digits::number_at`: the run at the place is no number, or it is one.
use mathlib.Core.Path.{◌≡◌, sym, ap, ◌∙◌}
use mathlib.Core.Logic.{inl, inr}
use Prim.Native.Nat.{◌+◌, ◌<◌}
use native.Mathlib.Omega.{arith}
use lib.ListN.{length, drop}
use Rattle.text.specs.Number.{digits}
use Rattle.text.specs.declared.Run.{Run}
use Rattle.text.proofs.Numbers.{first-digit, number-missing, number-there}
use Rattle.text.proofs.digits.number_at.Goals.{After-run_at-run, Else-run-at}
use Rattle.text.proofs.digits.number_at.Goals as goal

-- where the run ends
ended : (c : After-run_at-run) → c.run_at-run.result.end ≡ c.args.at + length (digits (drop c.args.at c.args.line.now))
ended c = ap (λ (r : Run). r.end) c.run_at-run.ensures

-- past the first test there are digits
some-digits : (c : Else-run-at) → 0 < length (digits (drop c.args.at c.args.line.now))
some-digits c = omega (arith, ap (λ (r : Run). r.end) c.run_at-run.ensures)

pub returns-then-run-at : goal.returns-then-run-at
returns-then-run-at c = number-missing c.args.line.now c.args.at (inl (omega (arith, ended (goal.at.returns-then-run-at c).After-run_at-run)))

pub bounds-line-at : goal.bounds-line-at
bounds-line-at c = (first-digit c.args.line.now c.args.at (some-digits (goal.at.bounds-line-at c).Else-run-at)).0

pub returns-then-at-run : goal.returns-then-at-run
returns-then-at-run c =
    number-missing c.args.line.now c.args.at
    (inr (omega (arith, ended (goal.at.returns-then-at-run c).After-run_at-run), (first-digit c.args.line.now c.args.at (some-digits (goal.at.returns-then-at-run c).Else-run-at)).1 ∙ c.if-line-at-eq48.true))

pub returns-else-at-run : goal.returns-else-at-run
returns-else-at-run c =
    number-there c.args.line.now c.args.at c.run_at-run.result c.run_at-run.ensures (some-digits (goal.at.returns-else-at-run c).Else-run-at) (inr (omega (arith, ended (goal.at.returns-else-at-run c).After-run_at-run)))

pub returns-else-line-at-eq48 : goal.returns-else-line-at-eq48
returns-else-line-at-eq48 c =
    number-there c.args.line.now c.args.at c.run_at-run.result c.run_at-run.ensures (some-digits (goal.at.returns-else-line-at-eq48 c).Else-run-at)
    (inl (λ e. c.if-line-at-eq48.false (sym (first-digit c.args.line.now c.args.at (some-digits (goal.at.returns-else-line-at-eq48 c).Else-run-at)).1 ∙ e)))
