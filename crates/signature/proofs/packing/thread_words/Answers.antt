-- `signature::packing::thread_words`: what is still to be looked at, from the open word on, is all.
use mathlib.Core.Path.{◌≡◌, sym, ap, ◌∙◌, subst}
use Prim.Native.Nat.{◌+◌, ◌-◌, ◌≤◌}
use native.Mathlib.Omega.{arith}
use Rattle.signature.specs.inner.WordsLaid.{closed_of, ran_from}
use Rattle.signature.specs.declared.Open.{Open}
use borrow.Author.Tests.{not-true, not-false}
use Rattle.signature.proofs.Laid.{ran_on, ran_over, thread-yes, thread-no}
use Rattle.signature.proofs.packing.thread_words.Goals as goal

shut : (o : Open) → (closed_of o).word ≤ (closed_of o).q
unfolding closed_of
shut o = omega arith

pub returns-then-not-has_loads : goal.returns-then-not-has_loads
returns-then-not-has_loads c = (thread-no c.args.o c.args.t c.args.core c.args.last (sym c.has_loads.ensures ∙ not-true _ c.if-not-has_loads.true-raw), c.requires.2)

pub loop-i-init : goal.loop-i-init
loop-i-init c = let e : c.args.t.len - 0 ≡ c.args.t.len = omega arith in (omega arith, c.requires.2, ap (ran_from c.args.t c.args.core c.args.last c.args.o 0) e)

pub stepped-built-requires : goal.stepped-built-requires
stepped-built-requires c = (c.requires.0, c.loop-i-test.true, c.requires.1, c.loop-i.invariant.1)

pub loop-i-preserved : goal.loop-i-preserved
loop-i-preserved c = (
  omega arith,
  c.stepped-built.ensures.1,
  ap (λ (o : Open). ran_from c.args.t c.args.core c.args.last o (c.loop-i.i + 1) (c.args.t.len - (c.loop-i.i + 1))) c.stepped-built.ensures.0
      ∙ ran_on c.loop-i.built c.args.t c.args.core c.args.last c.args.t.len c.loop-i.i c.loop-i-test.true ∙ c.loop-i.invariant.2,
)

pub returns : goal.returns
returns c =
    let e : c.closed.result ≡ closed_of (ran_from c.args.t c.args.core c.args.last c.args.o 0 c.args.t.len)
    = c.closed.ensures ∙ ap closed_of (sym (ran_over c.loop-i.built c.args.t c.args.core c.args.last c.args.t.len c.loop-i.i c.loop-i-test.false) ∙ c.loop-i.invariant.2) in (
      e ∙ thread-yes c.args.o c.args.t c.args.core c.args.last (sym c.has_loads.ensures ∙ not-false _ c.if-not-has_loads.false-raw),
      subst (λ (o : Open). o.word ≤ o.q) (sym c.closed.ensures) (shut c.loop-i.built),
    )
