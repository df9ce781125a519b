-- `reading::lead`: every turn leads one entry further.
use mathlib.Core.Path.{sym, ap, ◌∙◌}
use Prim.Native.Nat.{◌+◌}
use native.Mathlib.Omega.{arith}
use lib.ListN.{get_or, drop}
use Rattle.papers.specs.Paper.{leads}
use Rattle.papers.specs.inner.ReaderBranch.{branch_of, between}
use Rattle.papers.proofs.Branches.{leads-over, leads-past, leads-off, leads-on, link-none, link-past, link-first}
use Rattle.papers.proofs.reading.lead.Goals as goal

-- src/reading/mod.rt:31:9
pub returns-then-rests-eq0 : goal.returns-then-rests-eq0
returns-then-rests-eq0 c = sym (link-none _ _ c.if-rests-eq0.true)

-- src/reading/mod.rt:35:9
pub returns-then-count-first : goal.returns-then-count-first
returns-then-count-first c =
    let s = c.args in
    sym (link-past s.from.now s.to.now s.count s.rests.now (omega (arith, c.if-rests-eq0.false)) (omega (arith, c.if-count-first.true, c.wide-first.ensures)))

-- src/reading/mod.rt:40:5
pub loop-i-init : goal.loop-i-init
loop-i-init c =
    let s = c.args in
    link-first s.from.now s.to.now s.count s.rests.now (omega (arith, c.if-rests-eq0.false)) (omega (arith, c.if-count-first.false, c.wide-first.ensures))
    ∙ ap (λ e. between (get_or s.from.now e 0) (leads (branch_of s.from.now s.to.now s.count) s.rests.now (get_or s.from.now e 0))) (sym c.wide-first.ensures)

-- src/reading/mod.rt:43:13
pub returns-then-count-e : goal.returns-then-count-e
returns-then-count-e c =
    let s = c.args in
    let l = c.loop-i in
    sym (l.invariant ∙ ap (between _) (leads-past s.from.now s.to.now s.count s.rests.now l.i l.x c.loop-i-test.true (omega (arith, c.if-count-e.true, c.wide-e.ensures))))

-- src/reading/mod.rt:46:13
pub returns-then-from-e : goal.returns-then-from-e
returns-then-from-e c =
    let s = c.args in
    let l = c.loop-i in
    sym (l.invariant ∙ ap (between _) (leads-off s.from.now s.to.now s.count s.rests.now l.i l.x c.loop-i-test.true (omega (arith, c.if-count-e.false, c.wide-e.ensures))
    (λ q. c.if-from-e.true (ap (λ e. get_or s.from.now e 0) c.wide-e.ensures ∙ q))))

-- src/reading/mod.rt:40:5
pub loop-i-preserved : goal.loop-i-preserved
loop-i-preserved c =
    let s = c.args in
    let l = c.loop-i in
    l.invariant ∙ ap (between _) (leads-on s.from.now s.to.now s.count s.rests.now l.i l.x c.loop-i-test.true (omega (arith, c.if-count-e.false, c.wide-e.ensures))
    (ap (λ e. get_or s.from.now e 0) (sym c.wide-e.ensures) ∙ c.if-from-e.false)
    ∙ ap (λ e. leads (branch_of s.from.now s.to.now s.count) (drop (l.i + 1) s.rests.now) (get_or s.to.now e 0)) (sym c.wide-e.ensures))

-- src/reading/mod.rt:26:1
pub returns : goal.returns
returns c =
    let s = c.args in
    let l = c.loop-i in
    sym (l.invariant ∙ ap (between _) (leads-over _ s.rests.now l.i l.x c.loop-i-test.false))
