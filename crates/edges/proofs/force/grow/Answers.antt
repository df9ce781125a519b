-- `edges::force::grow`: the loop stands before a pass.
use mathlib.Core.Path.{refl, sym, ◌∙◌}
use mathlib.Core.Bool.{false≢true}
use lib.ListN.{length}
use Rattle.trace.specs.Meaning.{frame_of}
use Rattle.trace.proofs.WellFormed.{form-iff}
use Rattle.trace.proofs.Good.{good}
use Rattle.rows.specs.Lent.{lent_of}
use Rattle.rows.proofs.Lent.{lent-within}
use Rattle.edges.specs.Supposed.{supposed_of}
use Rattle.edges.proofs.LastRound.{supposed-within, edges-inside}
use Rattle.edges.proofs.Settling.{settling-first, settling-next, settling-fewer, settling-end, settling-circle}
use Rattle.edges.proofs.force.grow.Goals as goal

pub close_both_ways-requires : goal.close_both_ways-requires
unfolding frame_of
close_both_ways-requires c =
    let t = c.args.t in
    (((form-iff t).0 c.requires.0).fits, edges-inside (frame_of t) (good t c.requires.0) (lent_of t c.args.kept.now) (supposed_of t c.args.supposed.now) (lent-within t c.args.kept.now c.requires.0) (supposed-within t c.args.supposed.now c.requires.0) 0 _ c.draw_first.ensures.has, c.requires.1, refl)

pub loop-t-init : goal.loop-t-init
loop-t-init c =
    let k = c.close_both_ways.ensures in
    let t = c.args.t in
    settling-first (frame_of t) (lent_of t c.args.kept.now) (supposed_of t c.args.supposed.now) _ _ _ _ _ _ c.draw_first.ensures k.0 k.1 k.2

pub returns-then-reflexive : goal.returns-then-reflexive
returns-then-reflexive c =
    let t = c.args.t in
    settling-circle (frame_of t) (lent_of t c.args.kept.now) (supposed_of t c.args.supposed.now) c.loop-t.edges c.loop-t.turned _ (length c.loop-t.edges) c.loop-t.invariant (sym c.reflexive.ensures ∙ c.if-reflexive.true) c.clear.ensures c.loop-t.invariant.full.long

pub settle_all-requires : goal.settle_all-requires
settle_all-requires c =
    (((form-iff c.args.t).0 c.requires.0).fits, c.draw_first.ensures.facts.sources-long, c.loop-t.invariant.full.long, c.loop-t.invariant.turned-long)

pub returns-then-settle_all : goal.returns-then-settle_all
unfolding frame_of
returns-then-settle_all c =
    let a = c.settle_all.ensures in
    let t = c.args.t in
    settling-end (frame_of t) (lent_of t c.args.kept.now) (supposed_of t c.args.supposed.now) (good t c.requires.0) ((form-iff t).0 c.requires.0).fits (lent-within t c.args.kept.now c.requires.0) (supposed-within t c.args.supposed.now c.requires.0) _ _ c.draw_first.ensures.facts
    c.loop-t.edges c.loop-t.turned _ _ c.loop-t.invariant (sym c.reflexive.ensures ∙ c.if-reflexive.false) a.takes (a.settled.0 c.if-settle_all.true)

pub loop-t-smaller : goal.loop-t-smaller
loop-t-smaller c =
    let a = c.settle_all.ensures in
    settling-fewer _ c.loop-t.edges c.loop-t.turned _ _ _ c.loop-t.invariant.full a.takes (λ q. false≢true (sym c.if-settle_all.false ∙ a.settled.1 q))

pub loop-t-preserved : goal.loop-t-preserved
unfolding frame_of
loop-t-preserved c =
    let t = c.args.t in
    settling-next (frame_of t) (lent_of t c.args.kept.now) (supposed_of t c.args.supposed.now) (good t c.requires.0) ((form-iff t).0 c.requires.0).fits (lent-within t c.args.kept.now c.requires.0) (supposed-within t c.args.supposed.now c.requires.0) _ _ c.draw_first.ensures.facts
    t.len refl c.loop-t.edges c.loop-t.turned _ _ _ c.loop-t.invariant c.settle_all.ensures.takes
