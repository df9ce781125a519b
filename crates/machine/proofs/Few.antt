-- The steps that are handed back are as many as the list has places for, at the most.
--
--   put-few, swept-few, placed-few, placing-few == each part of the building keeps to it
--   steps-few == and so does the answer
use mathlib.Core.Path.{◌≡◌, refl}
use mathlib.Core.Bool.{Bool, true, false, cond, not, ◌&&◌, ◌||◌}
use mathlib.Core.List.{List, [], ◌∷◌}
use Prim.Native.Nat.{ℕ, zero, suc, ◌+◌, ◌≤◌, ◌<◌}
use native.Mathlib.Omega.{arith}
use lib.Dec.{eqb, ltb}
use lib.ListN.{get_or}
use Rattle.laws.proofs.Tests.{so-lt}
use Rattle.trace.specs.Bounds.{THREADS}
use Rattle.trace.specs.Op.{thread}
use Rattle.trace.specs.Trace.{at}
use Rattle.trace.specs.WellFormed.{well_formed}
use Rattle.trace.specs.declared.Trace.{Trace}
use Rattle.judge.specs.Judged.{judged_of}
use Rattle.machine.specs.declared.Built.{Built}
use Rattle.machine.specs.declared.Steps.{Steps}
use Rattle.machine.specs.declared.Given.TheVariants as goal
use Rattle.machine.specs.Machine.{machined, lands}
use Rattle.machine.specs.Replay.{STEPS, put, began, passed_record, swept, placed_next, placing, none_built, built_of, yes?, no_steps, listed, steps_of}
use Rattle.machine.proofs.ByCases.{longer}

one_of : (x : Bool) (a b : Built) → a.len ≤ STEPS → b.len ≤ STEPS → (cond x a b).len ≤ STEPS
one_of true a b h k = h
one_of false a b h k = k

put-few : (b : Built) (s : ℕ) → b.len ≤ STEPS → (put b s).len ≤ STEPS
unfolding put
put-few b s h = go (ltb b.len STEPS) refl
  where
    go : (x : Bool) → ltb b.len STEPS ≡ x → (cond x (longer b s) b).len ≤ STEPS
    go true e = let l : b.len < STEPS = so-lt.0 e in omega arith
    go false e = h

module _ (t : Trace) where
  swept-few : (every : Bool) (core : ℕ) (b : Built) (n : ℕ) → b.len ≤ STEPS → (swept t every core b n).len ≤ STEPS
  unfolding swept passed_record
  swept-few every core b zero h = h
  swept-few every core b (suc n) h =
      let k = swept-few every core b n h in
      one_of (not (get_or (swept t every core b n).ran n false) && (every || eqb (thread (at t n)) core)) (began (swept t every core b n) n (thread (at t n))) (swept t every core b n) (put-few _ (thread (at t n)) k) k

  placed-few : (m : ℕ) (b : Built) (c : ℕ) → b.len ≤ STEPS → (placed_next t m b c).len ≤ STEPS
  unfolding placed_next
  placed-few m b c h =
      let k = swept-few false (thread (at t c)) b (suc c) h in
      one_of (lands m (at t c)) (swept t false (thread (at t c)) b (suc c)) (put (swept t false (thread (at t c)) b (suc c)) (THREADS + thread (at t c))) k (put-few _ (THREADS + thread (at t c)) k)

  placing-few : (m : ℕ) (b : Built) (xs : List ℕ) → b.len ≤ STEPS → (placing t m b xs).len ≤ STEPS
  unfolding placing
  placing-few m b [] h = h
  placing-few m b (c ∷ cs) h = placing-few m (placed_next t m b c) cs (placed-few m b c h)

  pub steps-few : (m : ℕ) (xs : List ℕ) → (steps_of t m xs).len ≤ STEPS
  unfolding steps_of built_of
  steps-few m xs =
      few (machined m) _ _ (few (well_formed t) _ _ (few (yes? (judged_of t m xs)) (listed (built_of t m xs)) (no_steps goal.NoOrder) (swept-few true 0 _ t.len (placing-few m none_built xs (omega arith))) (omega arith)) (omega arith)) (omega arith)
    where
      few : (x : Bool) (a b : Steps) → a.len ≤ STEPS → b.len ≤ STEPS → (cond x a b).len ≤ STEPS
      few true a b h k = h
      few false a b h k = k
