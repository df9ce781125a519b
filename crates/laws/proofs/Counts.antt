-- How often numbers stand in a list.
--
--   count-append  == in two lists joined
--   count-sum     == a list's length is the sum of its counts
--   count-mid     == what stands in the middle is counted
--   cut           == what is counted stands somewhere: a list cut at the first place of a number
--   repeats       == more than n numbers below n: one stands twice
use mathlib.Core.Path.{◌≡◌, refl, sym, ap, ◌∙◌}
use mathlib.Core.Logic.{inl, inr}
use mathlib.Core.Bool.{false, false≢true}
use mathlib.Core.List.{List, [], ◌∷◌, ◌++◌}
use Prim.Native.Nat.{ℕ, suc, ◌+◌, ◌≤◌, ◌<◌}
use native.Mathlib.Nat.{not-suc-le-zero}
use native.Mathlib.Decide.{dec_lt}
use native.Mathlib.Omega.{arith}
use lib.ListN.{length}
use lib.Dec.{ltb}
use Rattle.laws.specs.Tests.{any}
use Rattle.laws.specs.Places.{count}
use Rattle.laws.specs.Sums.{sum}
use Rattle.laws.proofs.Tests.{eq?, test, so-any, so-lt}
use Rattle.laws.proofs.Places.{count-here, count-later, count-le}
use Rattle.laws.proofs.Sums.{sum_bound, sum_bump}

pub count-append : (y : ℕ) (p t : List ℕ) → count y (p ++ t) ≡ count y p + count y t
unfolding count
count-append y [] t = omega arith
count-append y (x ∷ p) t =
    let r = count-append y p t in
    elim (eq? y x) [ inl e ↦ omega (arith, count-here y x p e, count-here y x (p ++ t) e) | inr d ↦ omega (arith, count-later y x p d, count-later y x (p ++ t) d) ]

pub count-sum : (n : ℕ) (xs : List ℕ) → ((x : ℕ) → 0 < count x xs → x < n) → sum n (λ x. count x xs) ≡ length xs
unfolding count
count-sum n [] b = omega (arith, sum_bound n 0 (λ x. count x []) (λ i _. omega arith))
count-sum n (y ∷ ys) b =
    sum_bump n y (λ x. count x ys) (λ x. count x (y ∷ ys)) (b y (omega (arith, count-here y y ys refl))) (count-here y y ys refl) (λ x d. count-later x y ys d)
    ∙ ap suc (count-sum n ys (λ x h. b x (omega (arith, count-le x y ys))))

pub count-mid : (p : List ℕ) (c : ℕ) (s : List ℕ) → 0 < count c (p ++ c ∷ s)
count-mid [] c s = omega (arith, count-here c c s refl)
count-mid (x ∷ p) c s = omega (arith, count-mid p c s, count-le c x (p ++ c ∷ s))

pub cut : (x : ℕ) (xs : List ℕ) → 0 < count x xs → (p : List ℕ) × (s : List ℕ) × (xs ≡ p ++ x ∷ s) × (count x xs ≡ suc (count x s))
unfolding count
cut x [] h = absurd (not-suc-le-zero h)
cut x (y ∷ ys) h =
    elim (eq? x y) [
      | inl e ↦ ([], ys, ap (λ z. z ∷ ys) (sym e), count-here x y ys e)
      | inr d ↦ let q = count-later x y ys d in let r = cut x ys (omega arith) in (y ∷ r.0, r.1, ap (λ t. y ∷ t) r.2, q ∙ r.3)
    ]

pub repeats : (n : ℕ) (xs : List ℕ) → ((x : ℕ) → 0 < count x xs → x < n) → n < length xs → (x : ℕ) × (1 < count x xs)
repeats n xs b h =
    elim (test (any n (λ x. ltb 1 (count x xs)))) [
      | inl t ↦ let s = (so-any n (λ x. ltb 1 (count x xs))).0 t in (s.0, so-lt.0 s.2)
      | inr t ↦ absurd (omega (arith, count-sum n xs b, sum_bound n 1 (λ x. count x xs) (λ i l. few i l t)))
    ]
  where
    few : (i : ℕ) → i < n → any n (λ x. ltb 1 (count x xs)) ≡ false → count i xs ≤ 1
    few i l t = elim (dec_lt 1 (count i xs)) [ yes m ↦ absurd (false≢true (sym t ∙ (so-any n (λ x. ltb 1 (count x xs))).1 (i, l, so-lt.1 m))) | no m ↦ omega arith ]
