-- `choice::open`: part by part.
use mathlib.Core.Path.{sym, ap₂, ◌∙◌}
use mathlib.Core.Bool.{◌||◌}
use Rattle.rows.specs.Rows.{bit}
use Rattle.reasons.proofs.Places.{open-off₁, open-off₂, open-on}
use Rattle.reasons.proofs.choice.open.Goals as goal

pub returns-then-not-rivals : goal.returns-then-not-rivals
returns-then-not-rivals c =
    let a = c.args in
    open-off₁ _ (bit a.read.now 0 a.x || bit a.read.now 0 a.y) (bit a.held.now a.x a.y) (bit a.held.now a.y a.x) (sym c.rivals.ensures ∙ c.if-not-rivals.true)

pub returns-then-test : goal.returns-then-test
returns-then-test c =
    let a = c.args in
    open-off₂ _ (bit a.read.now 0 a.x || bit a.read.now 0 a.y) (bit a.held.now a.x a.y) (bit a.held.now a.y a.x) (sym c.rivals.ensures ∙ c.if-not-rivals.false) (sym (ap₂ ◌||◌ c.test.ensures c.test-2.ensures) ∙ c.if-test.true)

pub returns : goal.returns
returns c =
    let a = c.args in
    ap₂ ◌||◌ c.test-3.ensures c.test-4.ensures
    ∙ open-on _ (bit a.read.now 0 a.x || bit a.read.now 0 a.y) (bit a.held.now a.x a.y) (bit a.held.now a.y a.x) (sym c.rivals.ensures ∙ c.if-not-rivals.false) (sym (ap₂ ◌||◌ c.test.ensures c.test-2.ensures) ∙ c.if-test.false)
