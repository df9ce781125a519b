-- `story::rest_to`: by the rule.
use mathlib.Core.Path.{sym, ap, ◌∙◌}
use mathlib.Core.Bool.{cond}
use native.Mathlib.Omega.{arith}
use borrow.Author.Tests.{eq-eqb, ne_eqb}
use Rattle.trace.specs.Meaning.{frame_of}
use Rattle.rows.specs.Rows.{bit}
use Rattle.reasons.specs.Telling.{rest_load}
use Rattle.reasons.proofs.story.rest_to.Goals as goal

pub returns-then-rule-eq6 : goal.returns-then-rule-eq6
returns-then-rule-eq6 c =
    let a = c.args in
    (c.load_of.ensures.0 ∙ sym (ap (λ b. cond b (rest_load (frame_of a.t) (bit a.chains.now) a.x a.y) a.y) (eq-eqb _ _ c.if-rule-eq6.true)), omega (arith, c.load_of.ensures.1))

pub returns : goal.returns
returns c =
    let a = c.args in
    (sym (ap (λ b. cond b (rest_load (frame_of a.t) (bit a.chains.now) a.x a.y) a.y) (ne_eqb _ _ c.if-rule-eq6.false)), c.requires)
