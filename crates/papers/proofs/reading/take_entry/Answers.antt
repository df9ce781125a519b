-- `reading::take_entry`: one law for each way that it goes.
use mathlib.Core.Path.{ap, ap₂, ◌∙◌}
use mathlib.Core.Bool.{not, ◌&&◌}
use mathlib.Core.List.{List}
use Prim.Native.Nat.{ℕ, ◌<◌}
use native.Mathlib.Omega.{arith}
use lib.Dec.{eqb}
use lib.ListN.{length}
use Rattle.trace.specs.Meaning.{frame_of}
use Rattle.pairs.specs.Kept.{kept_of}
use Rattle.rules.specs.Rules.{nothing}
use Rattle.rules.specs.RuleTests.{gives?}
use Rattle.papers.specs.Paper.{BRANCH, Entry, may_rest}
use Rattle.papers.specs.inner.ReaderBranch.{link_joins, linked}
use Rattle.papers.proofs.Taking.{circle-wrong, circle-closed, circle-goes, full-wrong, split-wrong, split_goes, edge-wrong, edge_goes}
use Rattle.papers.proofs.reading.take_entry.Goals as goal

abbrev entry_of : ℕ → ℕ → ℕ → List ℕ → Entry
entry_of r x y is = record { rule = r; from = x; to = y; rests = is }

-- src/reading/mod.rt:170:13
pub returns-then-not-closes : goal.returns-then-not-closes
returns-then-not-closes c =
    let s = c.args in
    let e = entry_of s.rule s.x s.y s.rests.now in
    let f = frame_of s.t in
    let K = kept_of s.model s.t in
    circle-wrong f K s.from.now s.to.now s.other.now s.count e c.if-rule-eq0.true c.closes.result
    (c.closes.ensures ∙ ap (λ l. eqb s.x s.y && linked l s.x s.y) c.lead-l.ensures) (c.if-not-closes.true) _ _ _

-- src/reading/mod.rt:174:13
pub returns-then-next-eq0 : goal.returns-then-next-eq0
returns-then-next-eq0 c =
    let s = c.args in
    let e = entry_of s.rule s.x s.y s.rests.now in
    let f = frame_of s.t in
    let K = kept_of s.model s.t in
    let r = c.other_side-next in
    circle-closed f K s.from.now s.to.now s.other.now s.count e c.if-rule-eq0.true c.closes.result
    (c.closes.ensures ∙ ap (λ l. eqb s.x s.y && linked l s.x s.y) c.lead-l.ensures) (c.if-not-closes.false) _ _ _
    r.result r.ensures.0 c.if-next-eq0.true

-- src/reading/mod.rt:176:9
pub returns-then-rule-eq0 : goal.returns-then-rule-eq0
returns-then-rule-eq0 c =
    let s = c.args in
    let e = entry_of s.rule s.x s.y s.rests.now in
    let f = frame_of s.t in
    let K = kept_of s.model s.t in
    let r = c.other_side-next in
    let p = c.requires in
    circle-goes f K s.from.now s.to.now s.other.now s.count e c.if-rule-eq0.true c.closes.result
    (c.closes.ensures ∙ ap (λ l. eqb s.x s.y && linked l s.x s.y) c.lead-l.ensures) (c.if-not-closes.false) _ _ _
    r.result r.ensures.0 c.if-next-eq0.false (omega (arith, r.ensures.1, p.1))

-- src/reading/mod.rt:179:9
pub returns-then-count-ge-BRANCH : goal.returns-then-count-ge-BRANCH
returns-then-count-ge-BRANCH c =
    let s = c.args in
    let e = entry_of s.rule s.x s.y s.rests.now in
    let f = frame_of s.t in
    let K = kept_of s.model s.t in
    full-wrong f K s.from.now s.to.now s.other.now s.count e c.if-rule-eq0.false c.if-count-ge-BRANCH.true _ _ _

-- src/reading/mod.rt:183:13
pub returns-then-not-divides : goal.returns-then-not-divides
returns-then-not-divides c =
    let s = c.args in
    let e = entry_of s.rule s.x s.y s.rests.now in
    let f = frame_of s.t in
    let K = kept_of s.model s.t in
    let m : s.count < BRANCH = omega (arith, c.if-count-ge-BRANCH.false) in
    split-wrong f K s.from.now s.to.now s.other.now s.count e c.if-rule-eq8.true m c.divides.result
    (c.divides.ensures ∙ ap₂ (λ a b. f.operation a && f.operation b && not (eqb a b) && eqb (length s.rests.now) 0) c.wide.ensures c.wide-then-rule-eq8.ensures)
    (c.if-not-divides.true) _ _ _

-- src/reading/mod.rt:188:9
pub returns-then-rule-eq8 : goal.returns-then-rule-eq8
returns-then-rule-eq8 c =
    let s = c.args in
    let e = entry_of s.rule s.x s.y s.rests.now in
    let f = frame_of s.t in
    let K = kept_of s.model s.t in
    let m : s.count < BRANCH = omega (arith, c.if-count-ge-BRANCH.false) in
    let p = c.requires in
    split_goes f K s.from.now s.to.now s.other.now s.count e c.if-rule-eq8.true m c.divides.result
    (c.divides.ensures ∙ ap₂ (λ a b. f.operation a && f.operation b && not (eqb a b) && eqb (length s.rests.now) 0) c.wide.ensures c.wide-then-rule-eq8.ensures)
    (c.if-not-divides.false) (omega (arith, m, p.2)) (omega (arith, m, p.3)) (omega (arith, m, p.4))

-- src/reading/mod.rt:191:9
pub returns-then-not-fits : goal.returns-then-not-fits
returns-then-not-fits c =
    let s = c.args in
    let e = entry_of s.rule s.x s.y s.rests.now in
    let f = frame_of s.t in
    let K = kept_of s.model s.t in
    let m : s.count < BRANCH = omega (arith, c.if-count-ge-BRANCH.false) in
    let p = c.requires in
    edge-wrong s.t p.0 K s.from.now s.to.now s.other.now s.count e c.if-rule-eq0.false c.if-rule-eq8.false m c.fits.result
    (c.fits.ensures ∙ ap₂ (λ a b. may_rest s.rule (length s.rests.now) && gives? f K nothing (link_joins c.lead-l.result) a b s.rule) c.wide-2.ensures c.wide-3.ensures
    ∙ ap (λ l. may_rest s.rule (length s.rests.now) && gives? f K nothing (link_joins l) s.x s.y s.rule) c.lead-l.ensures)
    (c.if-not-fits.true) _ _ _

-- src/reading/mod.rt:163:1
pub returns : goal.returns
returns c =
    let s = c.args in
    let e = entry_of s.rule s.x s.y s.rests.now in
    let f = frame_of s.t in
    let K = kept_of s.model s.t in
    let m : s.count < BRANCH = omega (arith, c.if-count-ge-BRANCH.false) in
    let p = c.requires in
    edge_goes s.t p.0 K s.from.now s.to.now s.other.now s.count e c.if-rule-eq0.false c.if-rule-eq8.false m c.fits.result
    (c.fits.ensures ∙ ap₂ (λ a b. may_rest s.rule (length s.rests.now) && gives? f K nothing (link_joins c.lead-l.result) a b s.rule) c.wide-2.ensures c.wide-3.ensures
    ∙ ap (λ l. may_rest s.rule (length s.rests.now) && gives? f K nothing (link_joins l) s.x s.y s.rule) c.lead-l.ensures)
    (c.if-not-fits.false) (omega (arith, m, p.2)) (omega (arith, m, p.3)) (omega (arith, m, p.4))
