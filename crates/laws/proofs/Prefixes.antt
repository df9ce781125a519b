-- Places in a list of two parts.
--
--   pos-in, pos-out == what stands in the first part stands there; what does not stands as far into the second
--   first_of        == the first of a list that passes a test, and what stands before and after it
use mathlib.Core.Path.{◌≡◌, refl, sym, ap, ◌∙◌}
use mathlib.Core.Logic.{◌≢◌, ◌⊎◌, inl, inr}
use mathlib.Core.Bool.{Bool, false, So, false≢true}
use mathlib.Core.List.{List, [], ◌∷◌, ◌++◌}
use Prim.Native.Nat.{ℕ, suc, ◌+◌, ◌<◌}
use native.Mathlib.Nat.{not-suc-le-zero}
use native.Mathlib.Omega.{arith}
use lib.ListN.{length}
use Rattle.laws.specs.Places.{pos, count}
use Rattle.laws.proofs.Tests.{eq?, test}
use Rattle.laws.proofs.Places.{pos-here, pos-later, count-here, count-later}

pub pos-in : (y : ℕ) (p t : List ℕ) → 0 < count y p → pos (p ++ t) y ≡ pos p y
unfolding count
pos-in y [] t h = absurd (not-suc-le-zero h)
pos-in y (x ∷ p) t h =
    elim (eq? y x) [
      | inl e ↦ pos-here y x (p ++ t) e ∙ sym (pos-here y x p e)
      | inr d ↦ pos-later y x (p ++ t) d ∙ ap suc (pos-in y p t (omega (arith, count-later y x p d))) ∙ sym (pos-later y x p d)
    ]

pub pos-out : (y : ℕ) (p t : List ℕ) → count y p ≡ 0 → pos (p ++ t) y ≡ length p + pos t y
pos-out y [] t h = omega arith
pos-out y (x ∷ p) t h =
    elim (eq? y x) [
      | inl e ↦ absurd (omega (arith, count-here y x p e))
      | inr d ↦ omega (arith, pos-later y x (p ++ t) d, pos-out y p t (omega (arith, count-later y x p d)))
    ]

pub first_of : (t : ℕ → Bool) (s : List ℕ) (c : ℕ) → So (t c) → 0 < count c s
    → (z : ℕ) × (a : List ℕ) × (b : List ℕ) × (s ≡ a ++ z ∷ b) × So (t z) × ((x : ℕ) → 0 < count x a → So (t x) → ⊥)
unfolding count
first_of t [] c u h = absurd (not-suc-le-zero h)
first_of t (y ∷ s) c u h = go (test (t y)) (first_of t s c u)
  where
    go : So (t y) ⊎ (t y ≡ false) → (0 < count c s → (z : ℕ) × (a : List ℕ) × (b : List ℕ) × (s ≡ a ++ z ∷ b) × So (t z) × ((x : ℕ) → 0 < count x a → So (t x) → ⊥))
        → (z : ℕ) × (a : List ℕ) × (b : List ℕ) × (y ∷ s ≡ a ++ z ∷ b) × So (t z) × ((x : ℕ) → 0 < count x a → So (t x) → ⊥)
    go (inl v) r = (y, [], s, refl, v, λ x h _. not-suc-le-zero h)
    go (inr v) r =
        let other : (x : ℕ) → So (t x) → x ≢ y = λ x w d. false≢true (sym v ∙ ap t (sym d) ∙ w) in
        let (z, a, b, e, w, n) = r (omega (arith, count-later c y s (other c u))) in
        (z, y ∷ a, b, ap (λ l. y ∷ l) e, w, λ x h k. n x (omega (arith, count-later x y a (other x k))) k)
