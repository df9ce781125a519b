-- `story::rest_from`: by the rule.
use mathlib.Core.Path.{sym, ap, ◌∙◌}
use mathlib.Core.Bool.{cond}
use native.Mathlib.Omega.{arith}
use borrow.Author.Tests.{eq-eqb, ne_eqb}
use Rattle.trace.specs.Meaning.{frame_of}
use Rattle.pairs.specs.SourceOf.{source_of}
use Rattle.reasons.proofs.Resting.{source-small}
use Rattle.reasons.proofs.story.rest_from.Goals as goal

pub returns-then-rule-eq6 : goal.returns-then-rule-eq6
returns-then-rule-eq6 c =
    let a = c.args in
    (sym (ap (λ b. cond b a.x (source_of (frame_of a.t) a.x)) (eq-eqb _ _ c.if-rule-eq6.true)), c.requires)

pub returns : goal.returns
returns c =
    let a = c.args in
    (c.source_of.ensures ∙ sym (ap (λ b. cond b a.x (source_of (frame_of a.t) a.x)) (ne_eqb _ _ c.if-rule-eq6.false)), omega (arith, c.source_of.ensures, source-small (frame_of a.t) a.x))
