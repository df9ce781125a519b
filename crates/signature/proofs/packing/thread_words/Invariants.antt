use mathlib.Core.Path.{◌≡◌}
use Prim.Native.Nat.{◌-◌, ◌≤◌}
use Rattle.signature.specs.inner.WordsLaid.{ran_from}
use Rattle.signature.proofs.packing.thread_words.Given as goal

abbrev pub invariant-loop-i : goal.invariant-loop-i
invariant-loop-i l = (l.i ≤ l.t.len) × (l.built.word ≤ l.built.q) × (ran_from l.t l.core l.last l.built l.i (l.t.len - l.i) ≡ ran_from l.t l.core l.last l.initial.built 0 l.t.len)
