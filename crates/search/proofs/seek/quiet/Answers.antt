-- `search::seek::quiet`: the source of no record passed is placed.
use mathlib.Core.Bool.{So, false≢true}
use mathlib.Core.Logic.{inl, inr}
use mathlib.Core.Path.{sym, ◌∙◌}
use native.Mathlib.Omega.{arith}
use lib.ListN.{get_or}
use Rattle.laws.proofs.Tests.{no_iff, yes_iff}
use Rattle.rows.specs.Rows.{bit}
use Rattle.edges.proofs.DrawnEdges.{next-seen}
use Rattle.search.proofs.Candidates.{next-on, next-at}
use Rattle.search.proofs.seek.quiet.Goals as goal

pub loop-load-init : goal.loop-load-init
loop-load-init c = (next-at _ 0 _ c.next-load.ensures, λ x h t. absurd (c.next-load.ensures.skips x (omega arith) h t))

pub returns-then-test : goal.returns-then-test
returns-then-test c = let here : So (bit c.rest-waiting.result 0 c.loop-load.load) = elim c.loop-load.invariant.0 [ inl t ↦ t | inr e ↦ absurd (omega (arith, c.loop-load-test.true, c.requires)) ] in
    let h = (c.rest-waiting.ensures.has c.loop-load.load).0 here in
    no_iff (λ q. q c.loop-load.load c.loop-load-test.true (record { there = h.0; due = sym c.test.ensures ∙ c.if-test.true; unplaced = h.1 }))

pub overflow_add-load : goal.overflow_add-load
overflow_add-load c = omega (arith, c.loop-load-test.true, c.requires)

pub loop-load-smaller : goal.loop-load-smaller
loop-load-smaller c = omega (arith, next-on _ c.loop-load.load _ c.next-load-in-loop-load.ensures (omega (arith, c.loop-load-test.true, c.requires)))

pub loop-load-preserved : goal.loop-load-preserved
loop-load-preserved c = (
  next-at _ _ _ c.next-load-in-loop-load.ensures,
  next-seen {P = λ L. So (bit c.args.placed.now 0 (get_or c.args.sources.now L 0)) → ⊥} _ c.loop-load.load _ c.loop-load.invariant.1 (λ _ u. false≢true (sym c.if-test.false ∙ c.test.ensures ∙ u)) c.next-load-in-loop-load.ensures,
)

pub returns : goal.returns
returns c = yes_iff (λ L h w. c.loop-load.invariant.1 L (omega (arith, c.loop-load-test.false)) ((c.rest-waiting.ensures.has L).1 (w.there, w.unplaced)) w.due)
