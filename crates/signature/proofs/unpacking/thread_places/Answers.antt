-- `signature::unpacking::thread_places`: the records still to come, behind what is laid out, are all.
use mathlib.Core.Path.{◌≡◌, sym, ap, ◌∙◌}
use Prim.Native.Nat.{◌+◌, ◌-◌}
use native.Mathlib.Omega.{arith}
use borrow.Author.Tests.{not-true, not-false}
use Rattle.signature.specs.inner.WordsLaid.{placed_from}
use Rattle.signature.specs.declared.Places.{Places}
use Rattle.signature.proofs.Placed.{from_on, from-over, thread-placed, thread-left}
use Rattle.signature.proofs.unpacking.thread_places.Goals as goal

pub returns-then-not-has_loads : goal.returns-then-not-has_loads
returns-then-not-has_loads c = thread-left c.args.x c.args.t c.args.core (sym c.has_loads.ensures ∙ not-true _ c.if-not-has_loads.true-raw)

pub loop-i-init : goal.loop-i-init
loop-i-init c = let e : c.args.t.len - 0 ≡ c.args.t.len = omega arith in (omega arith, ap (placed_from c.args.t c.args.core c.args.x 0) e)

pub loop-i-preserved : goal.loop-i-preserved
loop-i-preserved c = (
  omega arith,
  ap (λ (x : Places). placed_from c.args.t c.args.core x (c.loop-i.i + 1) (c.args.t.len - (c.loop-i.i + 1))) c.looked-built.ensures
      ∙ from_on c.loop-i.built c.args.t c.args.core c.args.t.len c.loop-i.i c.loop-i-test.true ∙ c.loop-i.invariant.1,
)

pub returns : goal.returns
returns c =
    thread-placed c.args.x c.args.t c.args.core (sym c.has_loads.ensures ∙ not-false _ c.if-not-has_loads.false-raw) c.loop-i.built c.after-at.result
    (sym (from-over c.loop-i.built c.args.t c.args.core c.args.t.len c.loop-i.i c.loop-i-test.false) ∙ c.loop-i.invariant.1) c.after-at.ensures
