use mathlib.Core.Path.{◌≡◌}
use Prim.Native.Nat.{◌-◌, ◌≤◌}
use Rattle.trace.specs.Bounds.{THREADS}
use Rattle.signature.specs.inner.WordsLaid.{placed_all, places_of}
use Rattle.signature.proofs.unpacking.all_places.Given as goal

abbrev pub invariant-loop-core : goal.invariant-loop-core
invariant-loop-core l = (l.core ≤ THREADS) × (placed_all l.t l.built l.core (THREADS - l.core) ≡ places_of l.t)
