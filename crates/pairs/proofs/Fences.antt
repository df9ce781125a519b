-- A fence of a thread between two records, record by record.
--
--   fenced-more                               == a fence of a thread between two records, one record further on
use mathlib.Core.Path.{◌≡◌, refl}
use mathlib.Core.Bool.{Bool, true, false, ◌&&◌, ◌||◌}
use Prim.Native.Nat.{ℕ, ◌+◌}
use native.Mathlib.Numerals.{add-one}
use lib.Dec.{eqb, ltb}
use Rattle.laws.specs.Tests.{any}
use Rattle.trace.specs.Op.{thread, fence}
use Rattle.trace.specs.Trace.{at}
use Rattle.trace.specs.declared.Trace.{Trace}
use Rattle.pairs.specs.Kept.{fenced}

pub fenced-more : (t : Trace) (x y : ℕ) → fenced t x (y + 1) ≡ (fenced t x y || (fence (at t y) && ltb x y && eqb (thread (at t y)) (thread (at t x))))
unfolding fenced any
fenced-more t x y = rw add-one (either (fence (at t y) && ltb x y && eqb (thread (at t y)) (thread (at t x))) (fenced t x y))
  where
    either : (p b : Bool) → (elim p [ true ↦ true | false ↦ b ]) ≡ (b || p)
    either true true = refl
    either true false = refl
    either false true = refl
    either false false = refl
