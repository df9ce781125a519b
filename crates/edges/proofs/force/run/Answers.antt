-- `edges::force::run`: the loop stands at some round.
use mathlib.Core.Bool.{true, false}
use native.Mathlib.Numerals.{add-one}
use native.Mathlib.Omega.{arith}
use lib.ListN.{length}
use borrow.Author.Tests.{not-true, not-false}
use Rattle.laws.proofs.Growth.{pairs-bound}
use Rattle.trace.specs.Bounds.{RECORDS}
use Rattle.trace.specs.Meaning.{frame_of}
use Rattle.trace.proofs.WellFormed.{form-iff}
use Rattle.trace.proofs.Good.{good}
use Rattle.rows.specs.Rows.{bit}
use Rattle.rows.specs.Lent.{lent_of}
use Rattle.rows.proofs.Lent.{lent-within}
use Rattle.edges.specs.Supposed.{supposed_of}
use Rattle.edges.specs.inner.RoundStep.{Closed}
use Rattle.edges.proofs.LastRound.{supposed-within, edges-inside, stayed, grown, fewer, turns, stands-first, stands-next, ended-circle, ended-last}
use Rattle.edges.proofs.force.run.Goals as goal

pub loop-t-init : goal.loop-t-init
loop-t-init c =
    let t = c.args.t in
    (c.requires.3, stands-first (frame_of t) (lent_of t c.args.kept.now) (supposed_of t c.args.supposed.now) _ _ _ _ (length c.args.before.now) c.draw_first.ensures c.clear.ensures c.requires.1, omega arith)

pub close-requires : goal.close-requires
unfolding frame_of
close-requires c =
    let l = c.loop-t in
    let t = c.args.t in
    (((form-iff t).0 c.requires.0).fits, edges-inside (frame_of t) (good t c.requires.0) (lent_of t c.args.kept.now) (supposed_of t c.args.supposed.now) (lent-within t c.args.kept.now c.requires.0) (supposed-within t c.args.supposed.now c.requires.0) l.number l.edges l.invariant.1.edges-has, l.invariant.0)

pub returns-then-close : goal.returns-then-close
returns-then-close c =
    let t = c.args.t in
    let d : Closed c.loop-t.edges _ true = rw c.if-close.true at c.close.ensures in
    ended-circle (frame_of t) (lent_of t c.args.kept.now) (supposed_of t c.args.supposed.now) c.loop-t.number _ _ _ c.loop-t.invariant.1 d

pub advance-requires : goal.advance-requires
advance-requires c =
    let now = c.loop-t.invariant.1 in
    (((form-iff c.args.t).0 c.requires.0).fits, c.draw_first.ensures.facts.sources-long, c.close.ensures.full.long, now.before-full.long, now.edges-full.long)

pub returns-then-not-advance : goal.returns-then-not-advance
unfolding frame_of
returns-then-not-advance c =
    let t = c.args.t in
    let now = c.loop-t.invariant in
    let u = stayed c.advance.ensures (not-true _ c.if-not-advance.true-raw) in
    let d : Closed c.loop-t.edges _ false = rw c.if-close.false at c.close.ensures in
    rw (u.0, u.1)
    (ended-last (frame_of t) (lent_of t c.args.kept.now) (supposed_of t c.args.supposed.now) c.loop-t.number _ _ _ now.1 (good t c.requires.0) ((form-iff t).0 c.requires.0).fits
    (lent-within t c.args.kept.now c.requires.0) (supposed-within t c.args.supposed.now c.requires.0) _ _ c.draw_first.ensures.facts d u.2)

pub overflow_add-number : goal.overflow_add-number
overflow_add-number c =
    omega (arith, c.loop-t.invariant.2, pairs-bound RECORDS (bit c.loop-t.edges))

pub loop-t-smaller : goal.loop-t-smaller
loop-t-smaller c =
    let u = grown c.advance.ensures (not-false _ c.if-not-advance.false-raw) in
    fewer c.loop-t.edges _ _ c.loop-t.invariant.1.edges-full u.1 u.2

pub loop-t-preserved : goal.loop-t-preserved
unfolding frame_of
loop-t-preserved c =
    let t = c.args.t in
    let now = c.loop-t.invariant in
    let u = grown c.advance.ensures (not-false _ c.if-not-advance.false-raw) in
    let d : Closed c.loop-t.edges _ false = rw c.if-close.false at c.close.ensures in (
      c.close.ensures.full.long,
      rw add-one
          (stands-next (frame_of t) (lent_of t c.args.kept.now) (supposed_of t c.args.supposed.now) c.loop-t.number _ _ _ now.1 (good t c.requires.0) ((form-iff t).0 c.requires.0).fits
          (lent-within t c.args.kept.now c.requires.0) (supposed-within t c.args.supposed.now c.requires.0) _ _ c.draw_first.ensures.facts d _ _ u.0 u.1 u.2),
      rw add-one (turns c.loop-t.number c.loop-t.edges _ _ now.1.edges-full u.1 u.2 now.2),
    )
