-- `signature::unpacking::all_places`: the threads still to come, behind what is laid out, are all.
use mathlib.Core.Path.{refl, sym, ap, ◌∙◌}
use Prim.Native.Nat.{◌+◌, ◌-◌}
use native.Mathlib.Omega.{arith}
use Rattle.trace.specs.Bounds.{THREADS}
use Rattle.signature.specs.inner.WordsLaid.{placed_all}
use Rattle.signature.specs.declared.Places.{Places}
use Rattle.signature.proofs.Placed.{all-on, all-over}
use Rattle.signature.proofs.unpacking.all_places.Goals as goal

pub loop-core-init : goal.loop-core-init
loop-core-init c = (omega arith, refl)

pub loop-core-preserved : goal.loop-core-preserved
loop-core-preserved c = (
  omega arith,
  ap (λ (x : Places). placed_all c.args.t x (c.loop-core.core + 1) (THREADS - (c.loop-core.core + 1))) c.thread_places-built.ensures
      ∙ all-on c.loop-core.built c.args.t THREADS c.loop-core.core c.loop-core-test.true ∙ c.loop-core.invariant.1,
)

pub returns : goal.returns
returns c = sym (all-over c.loop-core.built c.args.t THREADS c.loop-core.core c.loop-core-test.false) ∙ c.loop-core.invariant.1
