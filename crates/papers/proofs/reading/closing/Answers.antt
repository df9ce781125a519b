-- `reading::closing`: what the numbers from `at` on show is what all show.
use mathlib.Core.Path.{◌≡◌, sym, subst}
use mathlib.Core.Logic.{◌↔◌}
use mathlib.Core.List.{[], ◌∷◌}
use Prim.Native.Nat.{◌+◌, ◌-◌, ◌≤◌}
use native.Mathlib.Omega.{arith}
use borrow.Author.Rules.{rules}
use lib.ListN.{length}
use Rattle.laws.proofs.Tests.{no_iff, so-eq}
use Rattle.trace.specs.Meaning.{frame_of}
use Rattle.pairs.specs.Kept.{kept_of}
use Rattle.papers.specs.inner.ReaderBranch.{Taken}
use Rattle.papers.specs.Accepts.{PaperShows}
use Rattle.papers.proofs.Showing.{entry_at, shows-long, as-entry, shows-goes, shows-wrong, shows-closed, went-short, goals-none}
use Rattle.papers.proofs.reading.closing.Goals.{After-take_entry-turn}
use Rattle.papers.proofs.reading.closing.Goals as goal

-- src/reading/mod.rt:179:5
pub loop-at-init : goal.loop-at-init
loop-at-init c =
    let s = c.args in
    let p = c.requires in
    (subst (λ Es. PaperShows (frame_of s.t) (kept_of s.model s.t) ([] ∷ []) s.list.now ↔ PaperShows (frame_of s.t) (kept_of s.model s.t) Es s.list.now) (sym (goals-none s.from.now s.to.now s.other.now)) (λ x. x, λ x. x), omega arith, omega arith, p.1, p.2, p.3)

-- src/reading/mod.rt:182:13
pub returns-then-n-at : goal.returns-then-n-at
returns-then-n-at c =
    let s = c.args in
    let v = c.loop-at in
    no_iff (λ x. let w = shows-long (frame_of s.t) (kept_of s.model s.t) _ _ s.list.now v.at (v.invariant.0.0 x) in omega (arith, w, c.if-n-at.true, c.wide-k.ensures, c.loop-at-test.true))

-- how many entries the next one rests on, and that it stands whole
whole : (c : After-take_entry-turn) → let v = c.loop-at in v.at + 4 + c.wide-k.result ≤ length c.args.list.now
whole c = omega (arith, c.if-n-at.false, c.loop-at-test.true, c.loop-at.invariant.1)

-- what taking it did, told of the entry in the list
taken : (c : After-take_entry-turn)
    → let v = c.loop-at in let s = c.args in let x = c.take_entry-turn.new in
    Taken (frame_of s.t) (kept_of s.model s.t) v.from v.to v.other v.count (entry_at s.list.now v.at c.wide-k.result) c.take_entry-turn.result x.from x.to x.other
taken c =
    let v = c.loop-at in
    let s = c.args in
    let k = c.wide-k.result in
    let x = c.take_entry-turn.new in
    let r = c.wide in
    subst (λ e. Taken (frame_of s.t) (kept_of s.model s.t) v.from v.to v.other v.count e c.take_entry-turn.result x.from x.to x.other)
    (as-entry s.list.now v.at k r.result _ r.ensures (let z : v.at + 4 + k - (v.at + 4) ≡ k = omega arith in z)) c.take_entry-turn.ensures

-- src/reading/mod.rt:179:5
pub loop-at-preserved : goal.loop-at-preserved
loop-at-preserved c =
    let s = c.args in
    let v = c.loop-at in
    let k = c.wide-k in
    let g = shows-goes (frame_of s.t) (kept_of s.model s.t) s.list.now v.at k.result (whole (goal.at.loop-at-preserved c).After-take_entry-turn) k.ensures v.from v.to v.other _ _ _ v.count c.take_entry-turn.result (taken (goal.at.loop-at-preserved c).After-take_entry-turn) _ c.in-Goes.is in
    let m = went-short (frame_of s.t) (kept_of s.model s.t) s.list.now v.at k.result (whole (goal.at.loop-at-preserved c).After-take_entry-turn) k.ensures v.from v.to v.other _ _ _ v.count c.take_entry-turn.result (taken (goal.at.loop-at-preserved c).After-take_entry-turn) _ c.in-Goes.is in
    ((λ x. g.0 (v.invariant.0.0 x), λ x. v.invariant.0.1 (g.1 x)), whole (goal.at.loop-at-preserved c).After-take_entry-turn, m, search rules, search rules, search rules)

-- src/reading/mod.rt:192:29
pub returns-in-Closed : goal.returns-in-Closed
returns-in-Closed c =
    let s = c.args in
    let v = c.loop-at in
    let k = c.wide-k in
    let g = shows-closed (frame_of s.t) (kept_of s.model s.t) s.list.now v.at k.result (whole (goal.at.returns-in-Closed c).After-take_entry-turn) k.ensures v.from v.to v.other _ _ _ v.count c.take_entry-turn.result (taken (goal.at.returns-in-Closed c).After-take_entry-turn) c.in-Closed.is in
    (λ x. v.invariant.0.1 (g.1 (so-eq.0 x)), λ x. so-eq.1 (g.0 (v.invariant.0.0 x)))

-- src/reading/mod.rt:193:28
pub returns-in-Wrong : goal.returns-in-Wrong
returns-in-Wrong c =
    let s = c.args in
    let v = c.loop-at in
    let k = c.wide-k in
    no_iff (λ x. shows-wrong (frame_of s.t) (kept_of s.model s.t) s.list.now v.at k.result (whole (goal.at.returns-in-Wrong c).After-take_entry-turn) k.ensures v.from v.to v.other _ _ _ v.count c.take_entry-turn.result (taken (goal.at.returns-in-Wrong c).After-take_entry-turn) c.in-Wrong.is (v.invariant.0.0 x))

-- src/reading/mod.rt:172:1
pub returns : goal.returns
returns c =
    let s = c.args in
    let v = c.loop-at in
    no_iff (λ x. let w = shows-long (frame_of s.t) (kept_of s.model s.t) _ _ s.list.now v.at (v.invariant.0.0 x) in omega (arith, w, c.loop-at-test.false))
