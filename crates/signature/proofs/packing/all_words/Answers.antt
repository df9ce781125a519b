-- `signature::packing::all_words`: the threads still to come, behind what is laid down, are all.
use mathlib.Core.Path.{refl, sym, ap, ◌∙◌}
use Prim.Native.Nat.{◌+◌, ◌-◌}
use native.Mathlib.Omega.{arith}
use Rattle.trace.specs.Bounds.{THREADS}
use Rattle.signature.specs.inner.WordsLaid.{all_from}
use Rattle.signature.specs.declared.Open.{Open}
use Rattle.signature.proofs.Laid.{all-on, all-over}
use Rattle.signature.proofs.packing.all_words.Goals as goal

pub loop-core-init : goal.loop-core-init
loop-core-init c = (omega arith, omega arith, refl)

pub thread_words-built-requires : goal.thread_words-built-requires
thread_words-built-requires c = (c.requires.0, c.requires.1, c.loop-core.invariant.1)

pub loop-core-preserved : goal.loop-core-preserved
loop-core-preserved c = (
  omega arith,
  c.thread_words-built.ensures.1,
  ap (λ (o : Open). all_from c.args.t c.args.last o (c.loop-core.core + 1) (THREADS - (c.loop-core.core + 1))) c.thread_words-built.ensures.0
      ∙ all-on c.loop-core.built c.args.t c.args.last THREADS c.loop-core.core c.loop-core-test.true ∙ c.loop-core.invariant.2,
)

pub returns : goal.returns
returns c = sym (all-over c.loop-core.built c.args.t c.args.last THREADS c.loop-core.core c.loop-core-test.false) ∙ c.loop-core.invariant.2
