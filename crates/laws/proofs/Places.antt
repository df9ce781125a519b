-- Where numbers stand in a list, and how often.
--
--   pos-here, pos-later, count-here, count-later  == one element more in front
--   pos-le, pos-lt, at-pos, pos-at, pos_inj       == a place is in the list, and what stands there
--   count-le, count_at                            == what stands in a list is counted
use mathlib.Core.Path.{◌≡◌, refl, sym, ap, ◌∙◌}
use mathlib.Core.Logic.{◌≢◌, inl, inr}
use mathlib.Core.Bool.{cond}
use mathlib.Core.List.{List, [], ◌∷◌}
use Prim.Native.Nat.{ℕ, zero, suc, ◌≤◌, ◌<◌}
use native.Mathlib.Nat.{not-suc-le-zero}
use native.Mathlib.Omega.{arith}
use lib.ListN.{length, get_or}
use Rattle.laws.specs.Places.{pos, count}
use Rattle.laws.proofs.Tests.{off, so-eq, eq?}

module _ (x y : ℕ) (ys : List ℕ) where
  pub pos-here : x ≡ y → pos (y ∷ ys) x ≡ zero
  unfolding pos
  pos-here e = ap (λ b. cond b zero (suc (pos ys x))) (so-eq.1 e)

  pub pos-later : x ≢ y → pos (y ∷ ys) x ≡ suc (pos ys x)
  unfolding pos
  pos-later d = ap (λ b. cond b zero (suc (pos ys x))) (off (λ t. d (so-eq.0 t)))

  pub count-here : x ≡ y → count x (y ∷ ys) ≡ suc (count x ys)
  unfolding count
  count-here e = ap (λ b. cond b (suc (count x ys)) (count x ys)) (so-eq.1 e)

  pub count-later : x ≢ y → count x (y ∷ ys) ≡ count x ys
  unfolding count
  count-later d = ap (λ b. cond b (suc (count x ys)) (count x ys)) (off (λ t. d (so-eq.0 t)))

  pub count-le : count x ys ≤ count x (y ∷ ys)
  count-le = elim (eq? x y) [ inl e ↦ omega (arith, count-here e) | inr d ↦ omega (arith, count-later d) ]

pub pos-le : (xs : List ℕ) (x : ℕ) → pos xs x ≤ length xs
unfolding pos
pos-le [] x = omega arith
pos-le (y ∷ ys) x = elim (eq? x y) [ inl e ↦ omega (arith, pos-here x y ys e) | inr d ↦ omega (arith, pos-later x y ys d, pos-le ys x) ]

-- what stands at the place of x is x
pub at-pos : (xs : List ℕ) (x : ℕ) → pos xs x < length xs → get_or xs (pos xs x) 0 ≡ x
at-pos [] x h = absurd (not-suc-le-zero h)
at-pos (y ∷ ys) x h = elim (eq? x y) [ inl e ↦ rw (pos-here x y ys e) (sym e) | inr d ↦ rw (pos-later x y ys d) (at-pos ys x (omega (arith, pos-later x y ys d))) ]

-- what stands in a list has a place in it
pub pos-lt : (xs : List ℕ) (x : ℕ) → 0 < count x xs → pos xs x < length xs
unfolding count
pos-lt [] x h = absurd (not-suc-le-zero h)
pos-lt (y ∷ ys) x h = elim (eq? x y) [ inl e ↦ omega (arith, pos-here x y ys e) | inr d ↦ omega (arith, pos-later x y ys d, pos-lt ys x (rw (count-later x y ys d) at h)) ]

-- what stands in a list is counted
pub count_at : (xs : List ℕ) (i : ℕ) → i < length xs → 0 < count (get_or xs i 0) xs
count_at [] i h = absurd (not-suc-le-zero h)
count_at (y ∷ ys) zero h = omega (arith, count-here y y ys refl)
count_at (y ∷ ys) (suc i) h =
    let x = get_or ys i 0 in
    omega (arith, count_at ys i (omega arith), count-le x y ys)

-- and if it stands there once, then where it first stands
pub pos-at : (xs : List ℕ) (i : ℕ) → i < length xs → count (get_or xs i 0) xs ≤ 1 → pos xs (get_or xs i 0) ≡ i
pos-at [] i h c = absurd (not-suc-le-zero h)
pos-at (y ∷ ys) zero h c = pos-here y y ys refl
pos-at (y ∷ ys) (suc i) h c =
    let x = get_or ys i 0 in
    let r = count_at ys i (omega arith) in
    elim (eq? x y) [
      | inl e ↦ absurd (omega (arith, count-here x y ys e))
      | inr d ↦ pos-later x y ys d ∙ ap suc (pos-at ys i (omega arith) (omega (arith, count-later x y ys d)))
    ]

-- two numbers in one place are one
pub pos_inj : (xs : List ℕ) (x y : ℕ) → pos xs x < length xs → pos xs x ≡ pos xs y → x ≡ y
pos_inj xs x y h e = sym (at-pos xs x h) ∙ rw e (at-pos xs y (rw e at h))
