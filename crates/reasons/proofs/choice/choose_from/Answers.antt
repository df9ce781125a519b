-- `choice::choose_from`: the best of the pairs of x up to y.
use Prim.Native.Nat.{◌+◌}
use native.Mathlib.Omega.{arith}
use Rattle.trace.specs.Meaning.{frame_of}
use Rattle.trace.proofs.WellFormed.{form-iff}
use Rattle.pairs.specs.Kept.{kept_of}
use Rattle.reasons.specs.inner.Choice.{rank_of}
use Rattle.reasons.proofs.Ranks.{rank-small, best-row, best-top, best-next, best-same, best-higher}
use Rattle.reasons.proofs.choice.choose_from.Goals.{else-best-rank, then-best-rank}
use Rattle.reasons.proofs.choice.choose_from.Goals as goal

pub loop-y-init : goal.loop-y-init
loop-y-init c =
    let a = c.args in
    (omega arith, c.requires.3, λ E k h. best-row a.t.len (rank_of (frame_of a.t) (kept_of a.model a.t) E) (rank-small (frame_of a.t) (kept_of a.model a.t) E) a.x a.start h)

pub returns-then-best-ge-BOTH : goal.returns-then-best-ge-BOTH
returns-then-best-ge-BOTH c =
    let a = c.args in (
      λ E k h.
          best-top a.t.len (rank_of (frame_of a.t) (kept_of a.model a.t) E) (rank-small (frame_of a.t) (kept_of a.model a.t) E) a.x c.loop-y.y c.loop-y.best (c.loop-y.invariant.2 E k h) c.if-best-ge-BOTH.true (a.x + 1) 0,
      c.loop-y.invariant.1,
    )

pub better-rank-requires : goal.better-rank-requires
better-rank-requires c =
    let r = ((form-iff c.args.t).0 c.requires.0).fits in
    (c.requires.0, c.requires.1, omega (arith, r, c.requires.2), omega (arith, r, c.loop-y-test.true), c.loop-y.invariant.1)

pub loop-y-preserved : goal.loop-y-preserved
loop-y-preserved c =
    let a = c.args in
    let u = c.better-rank in (
      omega (arith, c.loop-y.invariant.0),
      (elim c.if-best-rank.branch [ then-best-rank w ↦ rw w.best-is u.ensures.1 | else-best-rank w ↦ rw w.best-is c.loop-y.invariant.1 ]),
      λ E k h.
          let R = rank_of (frame_of a.t) (kept_of a.model a.t) E in
          let tops = rank-small (frame_of a.t) (kept_of a.model a.t) E in
          let i = c.loop-y.invariant.2 E k h in
          (elim c.if-best-rank.branch [ then-best-rank w ↦ rw w.best-is (best-higher a.t.len R tops a.x c.loop-y.y c.loop-y.best i u.result (u.ensures.0 E k) w.if-best-rank.true c.loop-y.invariant.0 c.loop-y-test.true) | else-best-rank w ↦ rw w.best-is (best-same a.t.len R tops a.x c.loop-y.y c.loop-y.best i u.result (u.ensures.0 E k) w.if-best-rank.false) ]),
    )

pub returns : goal.returns
returns c =
    let a = c.args in (
      λ E k h.
          best-next a.t.len (rank_of (frame_of a.t) (kept_of a.model a.t) E) (rank-small (frame_of a.t) (kept_of a.model a.t) E) a.x c.loop-y.y c.loop-y.best (c.loop-y.invariant.2 E k h) c.loop-y-test.false,
      c.loop-y.invariant.1,
    )
