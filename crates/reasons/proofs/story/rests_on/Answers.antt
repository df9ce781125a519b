-- `story::rests_on`: by the rule without chains, and otherwise by the round before the edge came.
use mathlib.Core.Path.{sym, ap, ◌∙◌}
use mathlib.Core.Bool.{◌||◌}
use native.Mathlib.Omega.{arith}
use lib.Dec.{eqb}
use Rattle.laws.proofs.Tests.{and-iff, same-iff}
use Rattle.trace.specs.WellFormed.{well_formed}
use Rattle.trace.specs.Meaning.{frame_of}
use Rattle.trace.proofs.Good.{good}
use Rattle.rows.specs.Bounds.{WORDS}
use Rattle.pairs.specs.Kept.{kept_of, modelled}
use Rattle.edges.specs.Supposed.{supposed_of}
use Rattle.edges.proofs.LastRound.{kept-within, supposed-within}
use Rattle.reasons.proofs.Resting.{rule-bare, bare-alone, prior-alone, prior-rests, rests-alone}
use Rattle.reasons.proofs.story.rests_on.Goals as goal

pub returns-then-rule-ne0 : goal.returns-then-rule-ne0
returns-then-rule-ne0 c =
    let a = c.args in
    let r = c.alone.ensures in
    rests-alone (frame_of a.t) (kept_of a.model a.t) (supposed_of a.t a.supposed.now) a.k a.x a.y a.steps.now c.alone.result _ r.0 r.1
    (λ E out. bare-alone (frame_of a.t) (kept_of a.model a.t) (supposed_of a.t a.supposed.now) a.k a.x a.y WORDS c.lowest_rule-rule.result c.lowest_rule-rule.ensures c.if-rule-ne0.true E out)

pub returns-then-k-test : goal.returns-then-k-test
returns-then-k-test c =
    let a = c.args in
    let g = good a.t c.requires.0 in
    let inK = kept-within a.model a.t c.requires.0 in
    let in_p = supposed-within a.t a.supposed.now c.requires.0 in
    let z = sym (rule-bare (frame_of a.t) (kept_of a.model a.t) WORDS a.x a.y) ∙ sym c.lowest_rule-rule.ensures ∙ c.if-rule-ne0.false in
    let h = c.round_before-last in
    let q = h.ensures.prior ((and-iff (same-iff {a = well_formed a.t}) (same-iff {a = modelled a.model})).1 (c.requires.0, c.requires.1)) in
    let r = c.alone-then-k-test.ensures in
    rests-alone (frame_of a.t) (kept_of a.model a.t) (supposed_of a.t a.supposed.now) a.k a.x a.y a.steps.now c.alone-then-k-test.result _ r.0 r.1
    (prior-alone (frame_of a.t) g (kept_of a.model a.t) (supposed_of a.t a.supposed.now) inK in_p a.k a.x a.y h.result.number h.result.edges h.result.chains q z (sym (ap (λ b. eqb a.k 0 || b) c.test.ensures) ∙ c.if-k-test.true))

pub slice_bounds-way-end : goal.slice_bounds-way-end
slice_bounds-way-end c =
    let a = c.args in
    let h = c.round_before-last in
    let q = h.ensures.prior ((and-iff (same-iff {a = well_formed a.t}) (same-iff {a = modelled a.model})).1 (c.requires.0, c.requires.1)) in
    sym q.edges-full.long

pub slice_bounds-way-end-2 : goal.slice_bounds-way-end-2
slice_bounds-way-end-2 c =
    let a = c.args in
    let h = c.round_before-last in
    let q = h.ensures.prior ((and-iff (same-iff {a = well_formed a.t}) (same-iff {a = modelled a.model})).1 (c.requires.0, c.requires.1)) in
    sym q.chains-full.long

pub returns : goal.returns
returns c =
    let a = c.args in
    let g = good a.t c.requires.0 in
    let inK = kept-within a.model a.t c.requires.0 in
    let in_p = supposed-within a.t a.supposed.now c.requires.0 in
    let z = sym (rule-bare (frame_of a.t) (kept_of a.model a.t) WORDS a.x a.y) ∙ sym c.lowest_rule-rule.ensures ∙ c.if-rule-ne0.false in
    let h = c.round_before-last in
    let q = h.ensures.prior ((and-iff (same-iff {a = well_formed a.t}) (same-iff {a = modelled a.model})).1 (c.requires.0, c.requires.1)) in
    let n = c.way-len in
    let from = c.rest_from-from in
    let to = c.rest_to-to in
    let u = prior-rests (frame_of a.t) g (kept_of a.model a.t) (supposed_of a.t a.supposed.now) inK in_p a.k a.x a.y h.result.number h.result.edges h.result.chains q z (sym (ap (λ b. eqb a.k 0 || b) c.test.ensures) ∙ c.if-k-test.false)
    c.lowest_rule-rule-2.result from.result to.result n.result n.new.out c.lowest_rule-rule-2.ensures from.ensures.0 to.ensures.0 n.ensures.1 in
    record {
      rests = u.1;
      lower = u.0;
      from-small = from.ensures.1;
      to-small = to.ensures.1;
      steps-small = λ i. omega (arith, c.type_inv.steps i);
      short = n.ensures.0;
    }
