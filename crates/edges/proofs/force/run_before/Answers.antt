-- `edges::force::run_before`: the loop stands at some round.
use mathlib.Core.Path.{sym, ap, ◌∙◌}
use mathlib.Core.Logic.{inl, inr}
use mathlib.Core.Bool.{false≢true}
use Prim.Native.Nat.{suc}
use native.Mathlib.Numerals.{add-one}
use native.Mathlib.Omega.{arith}
use lib.ListN.{length}
use borrow.Author.Tests.{not-true, not-false}
use Rattle.trace.specs.Meaning.{frame_of}
use Rattle.trace.proofs.WellFormed.{form-iff}
use Rattle.trace.proofs.Good.{good}
use Rattle.rules.specs.Rules.{Edge}
use Rattle.rows.proofs.Whole.{copy-same}
use Rattle.rows.specs.Lent.{lent_of}
use Rattle.rows.proofs.Lent.{lent-within}
use Rattle.edges.specs.Supposed.{supposed_of}
use Rattle.edges.specs.inner.RoundStep.{Closed}
use Rattle.edges.proofs.LastRound.{supposed-within, edges-inside, grown}
use Rattle.edges.proofs.RoundBefore.{nears-next, prior-here, prior-still, stays-last, next-full, next-has}
use Rattle.edges.proofs.force.run_before.Goals as goal

pub close-requires : goal.close-requires
unfolding frame_of
close-requires c =
    let q = c.copy.ensures ∙ copy-same c.loop-number.next c.loop-number.edges (c.loop-number.invariant.4.full.long ∙ sym c.loop-number.invariant.0) in
    let t = c.args.t in
    (((form-iff t).0 c.requires.0).fits, rw q (edges-inside (frame_of t) (good t c.requires.0) (lent_of t c.args.kept.now) (supposed_of t c.args.supposed.now) (lent-within t c.args.kept.now c.requires.0) (supposed-within t c.args.supposed.now c.requires.0) c.loop-number.number c.loop-number.next c.loop-number.invariant.4.has), c.loop-number.invariant.1)

pub returns-then-k-number : goal.returns-then-k-number
returns-then-k-number c =
    let q = c.copy.ensures ∙ copy-same c.loop-number.next c.loop-number.edges (c.loop-number.invariant.4.full.long ∙ sym c.loop-number.invariant.0) in
    let d : Closed c.loop-number.next _ _ = rw q at c.close.ensures in
    rw q (prior-here (frame_of c.args.t) (lent_of c.args.t c.args.kept.now) (supposed_of c.args.t c.args.supposed.now) c.args.k c.args.x c.args.y c.loop-number.number c.loop-number.next _ _ c.loop-number.invariant.4 d (inl (omega (arith, c.if-k-number.true))))

pub advance-grew-requires : goal.advance-grew-requires
advance-grew-requires c =
    (((form-iff c.args.t).0 c.requires.0).fits, c.draw_first.ensures.facts.sources-long, c.close.ensures.full.long, c.loop-number.invariant.2, c.loop-number.invariant.4.full.long)

pub returns-then-test : goal.returns-then-test
unfolding frame_of
returns-then-test c =
    let q = c.copy.ensures ∙ copy-same c.loop-number.next c.loop-number.edges (c.loop-number.invariant.4.full.long ∙ sym c.loop-number.invariant.0) in
    let d : Closed c.loop-number.next _ _ = rw q at c.close.ensures in
    rw q (prior-here (frame_of c.args.t) (lent_of c.args.t c.args.kept.now) (supposed_of c.args.t c.args.supposed.now) c.args.k c.args.x c.args.y c.loop-number.number c.loop-number.next _ _ c.loop-number.invariant.4 d (inr ((next-has (frame_of c.args.t) (lent_of c.args.t c.args.kept.now) (supposed_of c.args.t c.args.supposed.now) c.args.k c.args.x c.args.y c.loop-number.number c.loop-number.next _ _ c.loop-number.invariant.4 d (good c.args.t c.requires.0) ((form-iff c.args.t).0 c.requires.0).fits (lent-within c.args.t c.args.kept.now c.requires.0) (supposed-within c.args.t c.args.supposed.now c.requires.0) _ _ c.draw_first.ensures.facts c.advance-grew.ensures c.args.x c.args.y).0 (sym c.test.ensures ∙ c.if-test.true))))

pub returns-then-not-grew : goal.returns-then-not-grew
unfolding frame_of
returns-then-not-grew c =
    let q = c.copy.ensures ∙ copy-same c.loop-number.next c.loop-number.edges (c.loop-number.invariant.4.full.long ∙ sym c.loop-number.invariant.0) in
    let d : Closed c.loop-number.next _ _ = rw q at c.close.ensures in
    let out : Edge (frame_of c.args.t) (lent_of c.args.t c.args.kept.now) (supposed_of c.args.t c.args.supposed.now) (suc c.loop-number.number) c.args.x c.args.y → ⊥ = λ u. false≢true (sym (sym c.test.ensures ∙ c.if-test.false) ∙ (next-has (frame_of c.args.t) (lent_of c.args.t c.args.kept.now) (supposed_of c.args.t c.args.supposed.now) c.args.k c.args.x c.args.y c.loop-number.number c.loop-number.next _ _ c.loop-number.invariant.4 d (good c.args.t c.requires.0) ((form-iff c.args.t).0 c.requires.0).fits (lent-within c.args.t c.args.kept.now c.requires.0) (supposed-within c.args.t c.args.supposed.now c.requires.0) _ _ c.draw_first.ensures.facts c.advance-grew.ensures c.args.x c.args.y).1 u) in
    rw q (prior-still (frame_of c.args.t) (lent_of c.args.t c.args.kept.now) (supposed_of c.args.t c.args.supposed.now) c.args.k c.args.x c.args.y c.loop-number.number c.loop-number.next _ _ c.loop-number.invariant.4 d (omega (arith, c.if-k-number.false)) out (stays-last (frame_of c.args.t) (lent_of c.args.t c.args.kept.now) (supposed_of c.args.t c.args.supposed.now) c.args.k c.args.x c.args.y c.loop-number.number c.loop-number.next _ _ c.loop-number.invariant.4 d (good c.args.t c.requires.0) ((form-iff c.args.t).0 c.requires.0).fits (lent-within c.args.t c.args.kept.now c.requires.0) (supposed-within c.args.t c.args.supposed.now c.requires.0) _ _ c.draw_first.ensures.facts c.advance-grew.ensures (not-true _ c.if-not-grew.true-raw)))

pub loop-number-preserved : goal.loop-number-preserved
unfolding frame_of
loop-number-preserved c =
    let q = c.copy.ensures ∙ copy-same c.loop-number.next c.loop-number.edges (c.loop-number.invariant.4.full.long ∙ sym c.loop-number.invariant.0) in
    let d : Closed c.loop-number.next _ _ = rw q at c.close.ensures in
    let out : Edge (frame_of c.args.t) (lent_of c.args.t c.args.kept.now) (supposed_of c.args.t c.args.supposed.now) (suc c.loop-number.number) c.args.x c.args.y → ⊥ = λ u. false≢true (sym (sym c.test.ensures ∙ c.if-test.false) ∙ (next-has (frame_of c.args.t) (lent_of c.args.t c.args.kept.now) (supposed_of c.args.t c.args.supposed.now) c.args.k c.args.x c.args.y c.loop-number.number c.loop-number.next _ _ c.loop-number.invariant.4 d (good c.args.t c.requires.0) ((form-iff c.args.t).0 c.requires.0).fits (lent-within c.args.t c.args.kept.now c.requires.0) (supposed-within c.args.t c.args.supposed.now c.requires.0) _ _ c.draw_first.ensures.facts c.advance-grew.ensures c.args.x c.args.y).1 u) in
    let more = c.if-k-number.false in (
      ap length q ∙ c.loop-number.invariant.4.full.long,
      c.close.ensures.full.long,
      ap length (grown c.advance-grew.ensures (not-false _ c.if-not-grew.false-raw)).0 ∙ c.close.ensures.full.long,
      omega arith,
      rw add-one (nears-next (frame_of c.args.t) (lent_of c.args.t c.args.kept.now) (supposed_of c.args.t c.args.supposed.now) c.args.k c.args.x c.args.y c.loop-number.number c.loop-number.next _ _ c.loop-number.invariant.4 d _ (omega arith) out (next-full (frame_of c.args.t) (lent_of c.args.t c.args.kept.now) (supposed_of c.args.t c.args.supposed.now) c.args.k c.args.x c.args.y c.loop-number.number c.loop-number.next _ _ c.loop-number.invariant.4 d (good c.args.t c.requires.0) ((form-iff c.args.t).0 c.requires.0).fits (lent-within c.args.t c.args.kept.now c.requires.0) (supposed-within c.args.t c.args.supposed.now c.requires.0) _ _ c.draw_first.ensures.facts c.advance-grew.ensures) (next-has (frame_of c.args.t) (lent_of c.args.t c.args.kept.now) (supposed_of c.args.t c.args.supposed.now) c.args.k c.args.x c.args.y c.loop-number.number c.loop-number.next _ _ c.loop-number.invariant.4 d (good c.args.t c.requires.0) ((form-iff c.args.t).0 c.requires.0).fits (lent-within c.args.t c.args.kept.now c.requires.0) (supposed-within c.args.t c.args.supposed.now c.requires.0) _ _ c.draw_first.ensures.facts c.advance-grew.ensures)),
    )
