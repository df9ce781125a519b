-- `story::tell`: what falls is the round. The loop's invariant: the first i edges of the way are told.
use mathlib.Core.Path.{refl, sym, ◌∙◌, subst}
use mathlib.Core.List.{List}
use native.Mathlib.Omega.{arith}
use Rattle.trace.specs.Meaning.{frame_of}
use Rattle.pairs.specs.Kept.{kept_of}
use Rattle.edges.specs.Supposed.{supposed_of}
use Rattle.papers.specs.Paper.{Entry}
use Rattle.papers.specs.inner.ReaderBranch.{branch_of}
use Rattle.papers.proofs.Branches.{branch-long}
use Rattle.reasons.specs.Telling.{tell as telling}
use Rattle.reasons.specs.inner.Laid.{EntriesTold}
use Rattle.std.specs.Prelude.{Some, None}
use Rattle.reasons.proofs.Joining.{told_none, told-on, told_over}
use Rattle.reasons.proofs.Along.{along-start, along-on, along-over, along-end}
use Rattle.reasons.proofs.Resting.{tell-inside, inside-place, rests-resting, told-alone, told-short, told-resting}
use Rattle.reasons.proofs.story.+tell.Goals as goal

pub place-requires : goal.place-requires
place-requires t c =
    let p = c.requires in
    (omega (arith, p.5, p.6), omega (arith, p.5, p.7))

pub returns-then-place-count : goal.returns-then-place-count
returns-then-place-count t c =
    let a = c.args in
    let i = (inside-place (branch_of a.from.now a.to.now a.count) a.x a.y).0 (omega (arith, branch-long a.from.now a.to.now a.count, c.place.ensures, c.if-place-count.true)) in
    subst (λ (es : List Entry). EntriesTold a.limit a.from.now a.to.now a.out.now a.count a.at es a.from.now a.to.now a.out.now (Some (a.count, a.at))) (sym (tell-inside (frame_of a.t) (kept_of a.model a.t) (supposed_of a.t a.supposed.now) (branch_of a.from.now a.to.now a.count) a.x a.y a.k i))
    (told_none a.limit a.from.now a.to.now a.out.now a.count a.at c.requires.5 c.requires.4)

pub rests_on-rest-requires : goal.rests_on-rest-requires
rests_on-rest-requires t c =
    let p = c.requires in
    (p.0, p.1, p.2, p.3, refl)

pub name-requires : goal.name-requires
name-requires t c =
    let p = c.requires in
    (omega arith, omega arith, p.4, p.6, p.7)

pub returns-in_default : goal.returns-in_default
returns-in_default t c =
    let a = c.args in
    let new = (inside-place (branch_of a.from.now a.to.now a.count) a.x a.y).1 (omega (arith, branch-long a.from.now a.to.now a.count, c.place.ensures, c.if-place-count.false)) in
    let o = c.rests_on-rest in
    let m = c.name in
    told-alone (frame_of a.t) (kept_of a.model a.t) (supposed_of a.t a.supposed.now) a.k a.x a.y o.new.steps o.result.rule a.limit a.from.now a.to.now a.out.now a.count a.at new m.new.from m.new.to m.new.out m.result o.result.chain o.ensures c.in_default.is m.ensures

pub loop-i-init : goal.loop-i-init
loop-i-init t c =
    let a = c.args in
    let o = c.rests_on-rest in
    let h = c.in-Some.chain in
    let r = rests-resting (frame_of a.t) (kept_of a.model a.t) (supposed_of a.t a.supposed.now) a.k a.x a.y o.new.steps o.result.rule o.result.chain h o.ensures c.in-Some.is in
    let p = c.requires in
    (along-start a.limit a.from.now a.to.now a.out.now a.count a.at (telling (frame_of a.t) (kept_of a.model a.t) (supposed_of a.t a.supposed.now) h.number) h.from o.new.steps h.len h.to p.5 p.4, omega arith, r.from-small, p.6, p.7, refl)

pub tell-requires : goal.tell-requires
tell-requires t c =
    let v = c.loop-i.invariant in
    let o = c.rests_on-rest in
    let a = c.args in
    let h = c.in-Some.chain in
    let r = rests-resting (frame_of a.t) (kept_of a.model a.t) (supposed_of a.t a.supposed.now) a.k a.x a.y o.new.steps o.result.rule o.result.chain h o.ensures c.in-Some.is in
    let p = c.requires in
    (omega (arith, c.decreases, r.lower), (p.0, p.1, v.2, r.steps-small c.loop-i.i, v.0.done.fits, v.0.done.small, v.3, v.4))

pub returns-in_err-m : goal.returns-in_err-m
returns-in_err-m t c =
    let v = c.loop-i.invariant in
    let a = c.args in
    let o = c.rests_on-rest in
    let h = c.in-Some.chain in
    let r = rests-resting (frame_of a.t) (kept_of a.model a.t) (supposed_of a.t a.supposed.now) a.k a.x a.y o.new.steps o.result.rule o.result.chain h o.ensures c.in-Some.is in
    let new = (inside-place (branch_of a.from.now a.to.now a.count) a.x a.y).1 (omega (arith, branch-long a.from.now a.to.now a.count, c.place.ensures, c.if-place-count.false)) in
    let b = c.tell in
    rw c.from_residual.ensures (told-short (frame_of a.t) (kept_of a.model a.t) (supposed_of a.t a.supposed.now) a.k a.x a.y o.new.steps o.result.rule a.limit a.from.now a.to.now a.out.now a.count a.at new b.new.from b.new.to b.new.out None h r
    (along-over a.limit a.from.now a.to.now a.out.now a.count a.at (telling (frame_of a.t) (kept_of a.model a.t) (supposed_of a.t a.supposed.now) h.number) h.from o.new.steps h.len h.to (omega (arith, o.auto.steps, r.short)) c.loop-i.i c.loop-i.z c.loop-i.from c.loop-i.to c.loop-i.out c.loop-i.n c.loop-i.w v.0 b.new.from b.new.to b.new.out c.loop-i-test.true
    (told_over a.limit c.loop-i.from c.loop-i.to c.loop-i.out c.loop-i.n c.loop-i.w _ b.new.from b.new.to b.new.out b.result b.ensures c.in_err-m.was)))

pub loop-i-preserved : goal.loop-i-preserved
loop-i-preserved t c =
    let v = c.loop-i.invariant in
    let a = c.args in
    let o = c.rests_on-rest in
    let h = c.in-Some.chain in
    let r = rests-resting (frame_of a.t) (kept_of a.model a.t) (supposed_of a.t a.supposed.now) a.k a.x a.y o.new.steps o.result.rule o.result.chain h o.ensures c.in-Some.is in
    let b = c.tell in (
      along-on a.limit a.from.now a.to.now a.out.now a.count a.at (telling (frame_of a.t) (kept_of a.model a.t) (supposed_of a.t a.supposed.now) h.number) h.from o.new.steps h.len h.to (omega (arith, o.auto.steps, r.short)) c.loop-i.i c.loop-i.z c.loop-i.from c.loop-i.to c.loop-i.out c.loop-i.n c.loop-i.w v.0 b.new.from b.new.to b.new.out c.loop-i-test.true _ _
          (told-on a.limit c.loop-i.from c.loop-i.to c.loop-i.out c.loop-i.n c.loop-i.w _ b.new.from b.new.to b.new.out b.result _ _ b.ensures c.in_ok-m.was),
      omega (arith, c.loop-i-test.true),
      r.steps-small c.loop-i.i,
      b.auto.from ∙ v.3,
      b.auto.to ∙ v.4,
      b.auto.out ∙ v.5,
    )

pub tell-requires-2 : goal.tell-requires-2
tell-requires-2 t c =
    let v = c.loop-i.invariant in
    let o = c.rests_on-rest in
    let a = c.args in
    let h = c.in-Some.chain in
    let r = rests-resting (frame_of a.t) (kept_of a.model a.t) (supposed_of a.t a.supposed.now) a.k a.x a.y o.new.steps o.result.rule o.result.chain h o.ensures c.in-Some.is in
    let p = c.requires in
    (omega (arith, c.decreases, r.lower), (p.0, p.1, v.2, r.to-small, v.0.done.fits, v.0.done.small, v.3, v.4))

pub returns-in_err-m-2 : goal.returns-in_err-m-2
returns-in_err-m-2 t c =
    let v = c.loop-i.invariant in
    let a = c.args in
    let o = c.rests_on-rest in
    let h = c.in-Some.chain in
    let r = rests-resting (frame_of a.t) (kept_of a.model a.t) (supposed_of a.t a.supposed.now) a.k a.x a.y o.new.steps o.result.rule o.result.chain h o.ensures c.in-Some.is in
    let new = (inside-place (branch_of a.from.now a.to.now a.count) a.x a.y).1 (omega (arith, branch-long a.from.now a.to.now a.count, c.place.ensures, c.if-place-count.false)) in
    let b = c.tell-2 in
    rw c.from_residual-in_err-m-2.ensures (told-short (frame_of a.t) (kept_of a.model a.t) (supposed_of a.t a.supposed.now) a.k a.x a.y o.new.steps o.result.rule a.limit a.from.now a.to.now a.out.now a.count a.at new b.new.from b.new.to b.new.out None h r
    (along-end a.limit a.from.now a.to.now a.out.now a.count a.at (telling (frame_of a.t) (kept_of a.model a.t) (supposed_of a.t a.supposed.now) h.number) h.from o.new.steps h.len h.to (omega (arith, o.auto.steps, r.short)) c.loop-i.i c.loop-i.z c.loop-i.from c.loop-i.to c.loop-i.out c.loop-i.n c.loop-i.w v.0 b.new.from b.new.to b.new.out (omega (arith, c.loop-i-test.false)) None (told_over a.limit c.loop-i.from c.loop-i.to c.loop-i.out c.loop-i.n c.loop-i.w _ b.new.from b.new.to b.new.out b.result b.ensures c.in_err-m-2.was)))

pub name_resting-requires : goal.name_resting-requires
name_resting-requires t c =
    let v = c.loop-i.invariant in
    let a = c.args in
    let o = c.rests_on-rest in
    let h = c.in-Some.chain in
    let r = rests-resting (frame_of a.t) (kept_of a.model a.t) (supposed_of a.t a.supposed.now) a.k a.x a.y o.new.steps o.result.rule o.result.chain h o.ensures c.in-Some.is in
    let b = c.tell-2 in
    let d = told-on a.limit c.loop-i.from c.loop-i.to c.loop-i.out c.loop-i.n c.loop-i.w _ b.new.from b.new.to b.new.out b.result _ _ b.ensures c.in_ok-m-2.was in
    (r.from-small, r.to-small, r.short, o.auto.steps, d.fits, d.small, b.auto.from ∙ v.3, b.auto.to ∙ v.4)

pub returns : goal.returns
returns t c =
    let v = c.loop-i.invariant in
    let a = c.args in
    let o = c.rests_on-rest in
    let h = c.in-Some.chain in
    let r = rests-resting (frame_of a.t) (kept_of a.model a.t) (supposed_of a.t a.supposed.now) a.k a.x a.y o.new.steps o.result.rule o.result.chain h o.ensures c.in-Some.is in
    let new = (inside-place (branch_of a.from.now a.to.now a.count) a.x a.y).1 (omega (arith, branch-long a.from.now a.to.now a.count, c.place.ensures, c.if-place-count.false)) in
    let b = c.tell-2 in
    let m = c.name_resting in
    told-resting (frame_of a.t) (kept_of a.model a.t) (supposed_of a.t a.supposed.now) a.k a.x a.y o.new.steps o.result.rule a.limit a.from.now a.to.now a.out.now a.count a.at new m.new.from m.new.to m.new.out m.result h r b.new.from b.new.to b.new.out _ _
    (along-end a.limit a.from.now a.to.now a.out.now a.count a.at (telling (frame_of a.t) (kept_of a.model a.t) (supposed_of a.t a.supposed.now) h.number) h.from o.new.steps h.len h.to (omega (arith, o.auto.steps, r.short)) c.loop-i.i c.loop-i.z c.loop-i.from c.loop-i.to c.loop-i.out c.loop-i.n c.loop-i.w v.0 b.new.from b.new.to b.new.out (omega (arith, c.loop-i-test.false)) (Some _) (told-on a.limit c.loop-i.from c.loop-i.to c.loop-i.out c.loop-i.n c.loop-i.w _ b.new.from b.new.to b.new.out b.result _ _ b.ensures c.in_ok-m-2.was))
    m.ensures
