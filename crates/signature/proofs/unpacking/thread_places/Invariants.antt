use mathlib.Core.Path.{◌≡◌}
use Prim.Native.Nat.{◌-◌, ◌≤◌}
use Rattle.signature.specs.inner.WordsLaid.{placed_from}
use Rattle.signature.proofs.unpacking.thread_places.Given as goal

abbrev pub invariant-loop-i : goal.invariant-loop-i
invariant-loop-i l = (l.i ≤ l.t.len) × (placed_from l.t l.core l.built l.i (l.t.len - l.i) ≡ placed_from l.t l.core l.initial.built 0 l.t.len)
