use mathlib.Core.Path.{◌≡◌}
use Prim.Native.Nat.{◌-◌, ◌≤◌}
use Rattle.trace.specs.Bounds.{THREADS}
use Rattle.signature.specs.inner.WordsLaid.{all_from, none_laid}
use Rattle.signature.proofs.packing.all_words.Given as goal

abbrev pub invariant-loop-core : goal.invariant-loop-core
invariant-loop-core l = (l.core ≤ THREADS) × (l.built.word ≤ l.built.q) × (all_from l.t l.last l.built l.core (THREADS - l.core) ≡ all_from l.t l.last none_laid 0 THREADS)
