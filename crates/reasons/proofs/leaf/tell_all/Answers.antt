-- `leaf::tell_all`: the first i edges are told.
use mathlib.Core.Path.{refl, ◌∙◌}
use native.Mathlib.Omega.{arith}
use lib.ListN.{get_or}
use Rattle.trace.specs.Meaning.{frame_of}
use Rattle.pairs.specs.Kept.{kept_of}
use Rattle.edges.specs.Supposed.{supposed_of}
use Rattle.papers.specs.inner.ReaderBranch.{branch_of}
use Rattle.reasons.specs.Telling.{tell}
use Rattle.reasons.proofs.Along.{along-start, along-on, along-over, along-end}
use Rattle.reasons.proofs.Joining.{told-on, told_over}
use borrow.Author.Rules.{rules}
use Rattle.reasons.proofs.leaf.tell_all.Goals as goal

pub loop-i-init : goal.loop-i-init
loop-i-init c =
    let a = c.args in
    (omega arith, omega arith, refl, refl, refl, along-start a.limit a.from.now a.to.now a.out.now a.count a.at (tell (frame_of a.t) (kept_of a.model a.t) (supposed_of a.t a.supposed.now) a.k) a.a a.steps.now a.len a.b c.requires.4 c.requires.3)

pub overflow_cast-z : goal.overflow_cast-z
overflow_cast-z c = omega (arith, c.type_inv.steps c.loop-i.i)

pub tell-requires : goal.tell-requires
tell-requires c =
    let w = c.loop-i.invariant.5.done in
    (c.requires.0, c.requires.1, omega (arith, c.loop-i.invariant.1), omega (arith, c.type_inv.steps c.loop-i.i), w.fits, w.small, c.loop-i.invariant.2 ∙ c.requires.5, c.loop-i.invariant.3 ∙ c.requires.6)

pub loop-i-preserved : goal.loop-i-preserved
loop-i-preserved c =
    let a = c.args in
    (omega arith, omega (arith, c.type_inv.steps c.loop-i.i), (omega (arith, c.tell.auto.from, c.loop-i.invariant.2)), (omega (arith, c.tell.auto.to, c.loop-i.invariant.3)), search rules, along-on a.limit a.from.now a.to.now a.out.now a.count a.at (tell (frame_of a.t) (kept_of a.model a.t) (supposed_of a.t a.supposed.now) a.k) a.a a.steps.now a.len a.b c.requires.2 c.loop-i.i c.loop-i.x c.loop-i.from c.loop-i.to c.loop-i.out c.loop-i.n c.loop-i.p c.loop-i.invariant.5 c.tell.new.from c.tell.new.to c.tell.new.out c.loop-i-test.true _ _ (told-on a.limit c.loop-i.from c.loop-i.to c.loop-i.out c.loop-i.n c.loop-i.p (tell (frame_of a.t) (kept_of a.model a.t) (supposed_of a.t a.supposed.now) a.k (branch_of c.loop-i.from c.loop-i.to c.loop-i.n) c.loop-i.x (get_or a.steps.now c.loop-i.i 0)) c.tell.new.from c.tell.new.to c.tell.new.out c.tell.result _ _ c.tell.ensures c.in_ok-m.was))

pub returns-in_err-m : goal.returns-in_err-m
returns-in_err-m c =
    let a = c.args in
    rw c.from_residual.ensures (along-over a.limit a.from.now a.to.now a.out.now a.count a.at (tell (frame_of a.t) (kept_of a.model a.t) (supposed_of a.t a.supposed.now) a.k) a.a a.steps.now a.len a.b c.requires.2 c.loop-i.i c.loop-i.x c.loop-i.from c.loop-i.to c.loop-i.out c.loop-i.n c.loop-i.p c.loop-i.invariant.5 c.tell.new.from c.tell.new.to c.tell.new.out c.loop-i-test.true (told_over a.limit c.loop-i.from c.loop-i.to c.loop-i.out c.loop-i.n c.loop-i.p (tell (frame_of a.t) (kept_of a.model a.t) (supposed_of a.t a.supposed.now) a.k (branch_of c.loop-i.from c.loop-i.to c.loop-i.n) c.loop-i.x (get_or a.steps.now c.loop-i.i 0)) c.tell.new.from c.tell.new.to c.tell.new.out c.tell.result c.tell.ensures c.in_err-m.was))

pub tell-requires-2 : goal.tell-requires-2
tell-requires-2 c =
    let w = c.loop-i.invariant.5.done in
    (c.requires.0, c.requires.1, omega (arith, c.loop-i.invariant.1), omega (arith, c.ranges.b), w.fits, w.small, c.loop-i.invariant.2 ∙ c.requires.5, c.loop-i.invariant.3 ∙ c.requires.6)

pub returns : goal.returns
returns c =
    let a = c.args in
    along-end a.limit a.from.now a.to.now a.out.now a.count a.at (tell (frame_of a.t) (kept_of a.model a.t) (supposed_of a.t a.supposed.now) a.k) a.a a.steps.now a.len a.b c.requires.2 c.loop-i.i c.loop-i.x c.loop-i.from c.loop-i.to c.loop-i.out c.loop-i.n c.loop-i.p c.loop-i.invariant.5 _ _ _ c.loop-i-test.false c.tell-2.result c.tell-2.ensures
