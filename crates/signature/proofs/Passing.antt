-- What the loops over the records learn of a load's list, a record at a time. In each, what was counted and what is still to come make up the whole.
--
--   other-at               == the code's test is the definition's
--   range-whole, range-on  == how many there are
--   digit-whole, digit-hit, digit-on == the place of a value
--   loads-whole, loads-one, loads-none, loads-end == how many loads there are
--   and-off                == the second of two tests fails
use mathlib.Core.Path.{◌≡◌, sym, ap, ◌∙◌}
use mathlib.Core.Logic.{◌≢◌}
use mathlib.Core.Bool.{Bool, true, false, cond, So, ◌&&◌, false≢true}
use mathlib.Core.List.{List, [], ◌∷◌}
use Prim.Native.Nat.{ℕ, ◌+◌, ◌-◌, ◌<◌, ◌≤◌}
use native.Mathlib.Omega.{arith}
use lib.ListN.{length}
use Rattle.laws.specs.Places.{pos}
use Rattle.laws.specs.Picks.{picks}
use Rattle.laws.proofs.Places.{pos-here, pos-later}
use Rattle.trace.specs.Op.{address, written, reads}
use Rattle.trace.specs.Trace.{at, first}
use Rattle.trace.specs.declared.Trace.{Trace}
use Rattle.signature.specs.Reads.{other, each, values, range_of, digit_of, loads}
use Rattle.signature.proofs.Lists.{pick-step, pick_end, each_long}

-- what is still to come from record i on
abbrev pub comes : Trace → ℕ → ℕ → List ℕ
comes t L i = picks (other t L) i (t.len - i)

abbrev pub wrote : Trace → ℕ → ℕ → List ℕ
wrote t L i = each (λ x. written (at t x)) (comes t L i)

-- one record less to come
module _ (t : Trace) (L i : ℕ) (h : i < t.len) where
  pub comes-one : So (other t L i) → comes t L i ≡ i ∷ comes t L (i + 1)
  comes-one s = pick-step (other t L) t.len i h ∙ ap (λ (b : Bool). cond b (i ∷ comes t L (i + 1)) (comes t L (i + 1))) s

  pub comes-none : other t L i ≡ false → comes t L i ≡ comes t L (i + 1)
  comes-none s = pick-step (other t L) t.len i h ∙ ap (λ (b : Bool). cond b (i ∷ comes t L (i + 1)) (comes t L (i + 1))) s

module _ (t : Trace) (L : ℕ) where
  start : comes t L 0 ≡ picks (other t L) 0 t.len
  start = let e : t.len - 0 ≡ t.len = omega arith in ap (picks (other t L) 0) e

  pub over-end : (i : ℕ) → t.len ≤ i → comes t L i ≡ []
  over-end i h = pick_end (other t L) t.len i h

  pub values-whole : values t L ≡ first t (address (at t L)) ∷ wrote t L 0
  unfolding values
  values-whole = ap (λ (l : List ℕ). first t (address (at t L)) ∷ each (λ x. written (at t x)) l) (sym start)

  pub range-whole : 1 + length (comes t L 0) ≡ range_of t L
  range-whole = omega (arith, ap length values-whole, each_long (λ x. written (at t x)) (comes t L 0))

  module _ (i : ℕ) (h : i < t.len) (r : ℕ) (e : r + length (comes t L i) ≡ range_of t L) where
    pub range-one : So (other t L i) → r + 1 + length (comes t L (i + 1)) ≡ range_of t L
    range-one s = omega (arith, e, ap length (comes-one t L i h s))

    pub range_none : other t L i ≡ false → r + length (comes t L (i + 1)) ≡ range_of t L
    range_none s = omega (arith, e, ap length (comes-none t L i h s))

  pub range-end : (i : ℕ) → t.len ≤ i → (r : ℕ) → r + length (comes t L i) ≡ range_of t L → r ≡ range_of t L
  range-end i h r e = omega (arith, e, ap length (over-end i h))

  -- the digit of a value
  module _ (v : ℕ) where
    pub digit-first : v ≡ first t (address (at t L)) → 0 ≡ digit_of t L v
    digit-first e = sym (ap (λ (l : List ℕ). pos l v) values-whole ∙ pos-here v (first t (address (at t L))) (wrote t L 0) e)

    pub digit-whole : v ≢ first t (address (at t L)) → 1 + pos (wrote t L 0) v ≡ digit_of t L v
    digit-whole d = omega (arith, ap (λ (l : List ℕ). pos l v) values-whole, pos-later v (first t (address (at t L))) (wrote t L 0) d)

    module _ (i : ℕ) (h : i < t.len) (d : ℕ) (e : d + pos (wrote t L i) v ≡ digit_of t L v) where
      unfold-one : So (other t L i) → wrote t L i ≡ written (at t i) ∷ wrote t L (i + 1)
      unfolding each
      unfold-one s = ap (each (λ x. written (at t x))) (comes-one t L i h s)

      pub digit-hit : So (other t L i) → written (at t i) ≡ v → d ≡ digit_of t L v
      digit-hit s w = omega (arith, e, ap (λ (l : List ℕ). pos l v) (unfold-one s), pos-here v (written (at t i)) (wrote t L (i + 1)) (sym w))

      pub digit-one : So (other t L i) → written (at t i) ≢ v → d + 1 + pos (wrote t L (i + 1)) v ≡ digit_of t L v
      digit-one s w = omega (arith, e, ap (λ (l : List ℕ). pos l v) (unfold-one s), pos-later v (written (at t i)) (wrote t L (i + 1)) (λ z. w (sym z)))

      pub digit-none : other t L i ≡ false → d + pos (wrote t L (i + 1)) v ≡ digit_of t L v
      digit-none s = omega (arith, e, ap (λ (l : List ℕ). pos (each (λ x. written (at t x)) l) v) (comes-none t L i h s))

    pub digit-end : (i : ℕ) → t.len ≤ i → (d : ℕ) → d + pos (wrote t L i) v ≡ digit_of t L v → d ≡ digit_of t L v
    unfolding each pos
    digit-end i h d e = omega (arith, e, ap (λ (l : List ℕ). pos (each (λ x. written (at t x)) l) v) (over-end i h))

-- how many loads there are
module _ (t : Trace) where
  abbrev pub loads_from : ℕ → List ℕ
  loads_from i = picks (λ L. reads (at t L)) i (t.len - i)

  pub loads-whole : loads_from 0 ≡ loads t
  unfolding loads
  loads-whole = let e : t.len - 0 ≡ t.len = omega arith in ap (picks (λ L. reads (at t L)) 0) e

  pub loads-one : (i : ℕ) → i < t.len → So (reads (at t i)) → loads_from i ≡ i ∷ loads_from (i + 1)
  loads-one i h s = pick-step (λ L. reads (at t L)) t.len i h ∙ ap (λ (b : Bool). cond b (i ∷ loads_from (i + 1)) (loads_from (i + 1))) s

  pub loads-none : (i : ℕ) → i < t.len → reads (at t i) ≡ false → loads_from i ≡ loads_from (i + 1)
  loads-none i h s = pick-step (λ L. reads (at t L)) t.len i h ∙ ap (λ (b : Bool). cond b (i ∷ loads_from (i + 1)) (loads_from (i + 1))) s

  pub loads-end : (i : ℕ) → t.len ≤ i → loads_from i ≡ []
  loads-end i h = pick_end (λ L. reads (at t L)) t.len i h

-- the second of two tests fails where the first passes and not both do
pub and-off : (a b : Bool) → (a && b) ≡ false → a ≡ true → b ≡ false
and-off true b e h = e
and-off false b e h = absurd (false≢true h)
