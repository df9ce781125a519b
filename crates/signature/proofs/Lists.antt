-- Lists of numbers that pass a test, and what a function makes of each.
--
--   each_none, each-once  == no value, or none twice, where the function gives it nowhere, or to no two
--   pick_all              == a digit for each that passes
--   pick_same, pick-like  == two functions are alike on those that pass exactly when the lists are
--   pick-in, pick_low, pick-facts == what stands in the list
--   pick-step, pick-snoc  == one number less to look at, one more that was
--   pick-parts, pick-test == numbers looked at in two parts, and by a test that says the same
--   each_at, each_on, each_long, each_append == what a function makes of each
--   by_place, by-bound    == numbers taken by their place
--   append-parts          == two lists of equal beginnings, as long, are joined to equal ones only where both parts are equal
use mathlib.Core.Path.{◌≡◌, refl, sym, ap, ap₂, ◌∙◌, subst}
use mathlib.Core.Logic.{◌≢◌, inl, inr}
use mathlib.Core.Bool.{Bool, true, false, cond, So, false≢true}
use mathlib.Core.List.{List, [], ◌∷◌, ◌++◌}
use Prim.Native.Nat.{ℕ, zero, suc, ◌+◌, ◌-◌, ◌<◌, ◌≤◌}
use native.Mathlib.Nat.{not-suc-le-zero}
use native.Mathlib.Numerals.{add-one}
use native.Mathlib.Omega.{arith}
use lib.ListN.{length, get_or}
use Rattle.laws.specs.Places.{pos, count}
use Rattle.laws.specs.Picks.{picks}
use Rattle.laws.proofs.Tests.{eq?}
use Rattle.laws.proofs.Places.{pos-here, pos-later, count-here, count-later, count-le}
use Rattle.signature.specs.Reads.{each}
use Rattle.signature.proofs.DigitWords.{Digits, none, one}

module _ (q : ℕ → Bool) (g : ℕ → ℕ) where
  pub each_none : (v i k : ℕ) → ((j : ℕ) → i ≤ j → j < i + k → So (q j) → g j ≢ v) → count v (each g (picks q i k)) ≡ 0
  unfolding picks each count
  each_none v i zero n = refl
  each_none v i (suc k) n = go (q i) refl (each_none v (suc i) k (λ j a b. n j (omega arith) (omega arith)))
    where
      go : (b : Bool) → q i ≡ b → count v (each g (picks q (suc i) k)) ≡ 0 → count v (each g (cond b (i ∷ picks q (suc i) k) (picks q (suc i) k))) ≡ 0
      go true e r = count-later v (g i) (each g (picks q (suc i) k)) (λ d. n i (omega arith) (omega arith) e (sym d)) ∙ r
      go false e r = r

  pub each-once : (v i k : ℕ) → ((a b : ℕ) → a < i + k → b < i + k → So (q a) → So (q b) → g a ≡ g b → a ≡ b) → count v (each g (picks q i k)) ≤ 1
  unfolding picks each count
  each-once v i zero n = omega arith
  each-once v i (suc k) n = go (q i) refl (each-once v (suc i) k (λ a b c d. n a b (omega arith) (omega arith)))
    where
      go : (b : Bool) → q i ≡ b → count v (each g (picks q (suc i) k)) ≤ 1 → count v (each g (cond b (i ∷ picks q (suc i) k) (picks q (suc i) k))) ≤ 1
      go true e r = elim (eq? v (g i)) [
        | inl d ↦ omega (arith, count-here v (g i) (each g (picks q (suc i) k)) d, each_none v (suc i) k (λ j a b s f. omega (arith, n i j (omega arith) (omega arith) e s (sym d ∙ sym f))))
        | inr d ↦ omega (arith, count-later v (g i) (each g (picks q (suc i) k)) d, r)
      ]
      go false e r = r

-- lists of readers
module _ (q : ℕ → Bool) where
  pub pick_all : (P : ℕ → Type 0) (i k : ℕ) → ((j : ℕ) → j < i + k → So (q j) → P j) → (g h : ℕ → ℕ) → ((j : ℕ) → P j → g j < h j) → Digits (each h (picks q i k)) (each g (picks q i k))
  unfolding picks each
  pick_all P i zero n g h l = none
  pick_all P i (suc k) n g h l = go (q i) refl (pick_all P (suc i) k (λ j a. n j (omega arith)) g h l)
    where
      go : (b : Bool) → q i ≡ b → Digits (each h (picks q (suc i) k)) (each g (picks q (suc i) k)) → Digits (each h (cond b (i ∷ picks q (suc i) k) (picks q (suc i) k))) (each g (cond b (i ∷ picks q (suc i) k) (picks q (suc i) k)))
      go true e r = one (l i (n i (omega arith) e)) r
      go false e r = r

  pub pick_same : (g h : ℕ → ℕ) (i k : ℕ) → each g (picks q i k) ≡ each h (picks q i k) → (j : ℕ) → i ≤ j → j < i + k → So (q j) → g j ≡ h j
  unfolding picks each
  pick_same g h i zero e j a b s = absurd (omega arith)
  pick_same g h i (suc k) e j a b s = go (q i) refl e (pick_same g h (suc i) k)
    where
      go : (c : Bool) → q i ≡ c → each g (cond c (i ∷ picks q (suc i) k) (picks q (suc i) k)) ≡ each h (cond c (i ∷ picks q (suc i) k) (picks q (suc i) k))
          → (each g (picks q (suc i) k) ≡ each h (picks q (suc i) k) → (j : ℕ) → suc i ≤ j → j < suc i + k → So (q j) → g j ≡ h j) → g j ≡ h j
      go true u e r = elim (eq? j i) [
        | inl d ↦ let f : g i ≡ h i = cc in ap g d ∙ f ∙ ap h (sym d)
        | inr d ↦ let f : each g (picks q (suc i) k) ≡ each h (picks q (suc i) k) = cc in r f j (omega arith) (omega arith) s
      ]
      go false u e r = elim (eq? j i) [
        | inl d ↦ absurd (false≢true (sym u ∙ ap q (sym d) ∙ s))
        | inr d ↦ r e j (omega arith) (omega arith) s
      ]

  pub pick-like : (g h : ℕ → ℕ) (i k : ℕ) → ((j : ℕ) → i ≤ j → j < i + k → So (q j) → g j ≡ h j) → each g (picks q i k) ≡ each h (picks q i k)
  unfolding picks each
  pick-like g h i zero n = refl
  pick-like g h i (suc k) n = go (q i) refl (pick-like g h (suc i) k (λ j a b. n j (omega arith) (omega arith)))
    where
      go : (b : Bool) → q i ≡ b → each g (picks q (suc i) k) ≡ each h (picks q (suc i) k) → each g (cond b (i ∷ picks q (suc i) k) (picks q (suc i) k)) ≡ each h (cond b (i ∷ picks q (suc i) k) (picks q (suc i) k))
      go true e r = ap₂ (λ a l. a ∷ l) (n i (omega arith) (omega arith) e) r
      go false e r = r

-- two lists of equal beginnings, as long, are joined to equal ones only where both parts are equal
pub append-parts : (a b c d : List ℕ) → length a ≡ length b → a ++ c ≡ b ++ d → (a ≡ b) × (c ≡ d)
append-parts [] [] c d l e = (refl, e)
append-parts [] (x ∷ b) c d l e = absurd (omega (arith, l))
append-parts (x ∷ a) [] c d l e = absurd (omega (arith, l))
append-parts (x ∷ a) (y ∷ b) c d l e =
    let f : a ++ c ≡ b ++ d = cc in
    let g : x ≡ y = cc in
    let r = append-parts a b c d (omega arith) f in
    (ap₂ (λ z zs. z ∷ zs) g r.0, r.1)

-- what stands at the place of x is g of x
pub each_at : (g : ℕ → ℕ) (xs : List ℕ) (x : ℕ) → 0 < count x xs → get_or (each g xs) (pos xs x) 0 ≡ g x
unfolding each count
each_at g [] x h = absurd (not-suc-le-zero h)
each_at g (y ∷ ys) x h = elim (eq? x y) [
  | inl e ↦ ap (λ (n : ℕ). get_or (g y ∷ each g ys) n 0) (pos-here x y ys e) ∙ ap g (sym e)
  | inr d ↦ ap (λ (n : ℕ). get_or (g y ∷ each g ys) n 0) (pos-later x y ys d) ∙ each_at g ys x (omega (arith, count-later x y ys d, h))
]

pub pick-in : (q : ℕ → Bool) (i k x : ℕ) → i ≤ x → x < i + k → So (q x) → 0 < count x (picks q i k)
unfolding picks
pick-in q i zero x a b s = absurd (omega arith)
pick-in q i (suc k) x a b s = go (q i) refl (λ l. pick-in q (suc i) k x l (omega arith) s)
  where
    go : (c : Bool) → q i ≡ c → (suc i ≤ x → 0 < count x (picks q (suc i) k)) → 0 < count x (cond c (i ∷ picks q (suc i) k) (picks q (suc i) k))
    go true e r = elim (eq? x i) [ inl d ↦ omega (arith, count-here x i (picks q (suc i) k) d) | inr d ↦ omega (arith, count-later x i (picks q (suc i) k) d, r (omega arith)) ]
    go false e r = elim (eq? x i) [ inl d ↦ absurd (false≢true (sym e ∙ ap q (sym d) ∙ s)) | inr d ↦ r (omega arith) ]

-- a list of numbers that rise has none twice
pub pick_low : (q : ℕ → Bool) (i k x : ℕ) → 0 < count x (picks q i k) → i ≤ x
unfolding picks count
pick_low q i zero x h = absurd (not-suc-le-zero h)
pick_low q i (suc k) x h = go (q i) h (pick_low q (suc i) k x)
  where
    go : (c : Bool) → 0 < count x (cond c (i ∷ picks q (suc i) k) (picks q (suc i) k)) → (0 < count x (picks q (suc i) k) → suc i ≤ x) → i ≤ x
    go true h r = elim (eq? x i) [ inl d ↦ omega arith | inr d ↦ omega (arith, r (omega (arith, count-later x i (picks q (suc i) k) d))) ]
    go false h r = omega (arith, r h)

pub each_on : (g h : ℕ → ℕ) (xs : List ℕ) → ((x : ℕ) → 0 < count x xs → g x ≡ h x) → each g xs ≡ each h xs
unfolding each
each_on g h [] e = refl
each_on g h (y ∷ ys) e = ap₂ (λ a l. a ∷ l) (e y (omega (arith, count-here y y ys refl))) (each_on g h ys (λ x k. e x (omega (arith, count-le x y ys))))

-- numbers taken by their place
pub by_place : (q : ℕ → Bool) (i k : ℕ) (rs ds : List ℕ) → Digits rs ds → length rs ≡ length (picks q i k) → each (λ x. get_or ds (pos (picks q i k) x) 0) (picks q i k) ≡ ds
unfolding picks each
by_place q i zero [] [] none l = refl
by_place q i zero [] (d ∷ ds) g l = elim g [ ]
by_place q i zero (r ∷ rs) [] g l = elim g [ ]
by_place q i zero (r ∷ rs) (d ∷ ds) (one h g) l = absurd (omega (arith, l))
by_place q i (suc k) rs ds g l = go (q i) l (by_place q (suc i) k)
  where
    shift : (d : ℕ) (es : List ℕ) (x : ℕ) → 0 < count x (picks q (suc i) k) → get_or (d ∷ es) (pos (i ∷ picks q (suc i) k) x) 0 ≡ get_or es (pos (picks q (suc i) k) x) 0
    shift d es x h = ap (λ (n : ℕ). get_or (d ∷ es) n 0) (pos-later x i (picks q (suc i) k) (λ e. omega (arith, pick_low q (suc i) k x h)))

    front : ((rs ds : List ℕ) → Digits rs ds → length rs ≡ length (picks q (suc i) k) → each (λ x. get_or ds (pos (picks q (suc i) k) x) 0) (picks q (suc i) k) ≡ ds)
        → (rs ds : List ℕ) → Digits rs ds → length rs ≡ suc (length (picks q (suc i) k)) → each (λ x. get_or ds (pos (i ∷ picks q (suc i) k) x) 0) (i ∷ picks q (suc i) k) ≡ ds
    front rec [] [] none l = absurd (omega (arith, l))
    front rec [] (d ∷ ds) g l = elim g [ ]
    front rec (r ∷ rs) [] g l = elim g [ ]
    front rec (r ∷ rs) (d ∷ ds) (one h g) l = ap₂ (λ a b. a ∷ b) (ap (λ (n : ℕ). get_or (d ∷ ds) n 0) (pos-here i i (picks q (suc i) k) refl))
        (each_on (λ x. get_or (d ∷ ds) (pos (i ∷ picks q (suc i) k) x) 0) (λ x. get_or ds (pos (picks q (suc i) k) x) 0) (picks q (suc i) k) (shift d ds) ∙ rec rs ds g (omega arith))

    go : (c : Bool) → length rs ≡ length (cond c (i ∷ picks q (suc i) k) (picks q (suc i) k))
        → ((rs ds : List ℕ) → Digits rs ds → length rs ≡ length (picks q (suc i) k) → each (λ x. get_or ds (pos (picks q (suc i) k) x) 0) (picks q (suc i) k) ≡ ds)
        → each (λ x. get_or ds (pos (cond c (i ∷ picks q (suc i) k) (picks q (suc i) k)) x) 0) (cond c (i ∷ picks q (suc i) k) (picks q (suc i) k)) ≡ ds
    go true l rec = front rec rs ds g l
    go false l rec = rec rs ds g l

pub by-bound : (h : ℕ → ℕ) (xs ds : List ℕ) → Digits (each h xs) ds → (x : ℕ) → 0 < count x xs → get_or ds (pos xs x) 0 < h x
unfolding each count
by-bound h [] [] none x k = absurd (not-suc-le-zero k)
by-bound h [] (d ∷ ds) g x k = elim g [ ]
by-bound h (y ∷ ys) [] g x k = elim g [ ]
by-bound h (y ∷ ys) (d ∷ ds) (one b g) x k = elim (eq? x y) [
  | inl e ↦ subst (λ (n : ℕ). get_or (d ∷ ds) n 0 < h x) (sym (pos-here x y ys e)) (subst (λ (x : ℕ). d < h x) (sym e) b)
  | inr n ↦ subst (λ (j : ℕ). get_or (d ∷ ds) j 0 < h x) (sym (pos-later x y ys n)) (by-bound h ys ds g x (omega (arith, count-later x y ys n, k)))
]

pub pick-facts : (q : ℕ → Bool) (i k x : ℕ) → 0 < count x (picks q i k) → (x < i + k) × So (q x)
unfolding picks count
pick-facts q i zero x h = absurd (not-suc-le-zero h)
pick-facts q i (suc k) x h = go (q i) refl h (pick-facts q (suc i) k x)
  where
    go : (c : Bool) → q i ≡ c → 0 < count x (cond c (i ∷ picks q (suc i) k) (picks q (suc i) k)) → (0 < count x (picks q (suc i) k) → (x < suc i + k) × So (q x)) → (x < i + suc k) × So (q x)
    go true e h r = elim (eq? x i) [
      | inl d ↦ (omega arith, ap q d ∙ e)
      | inr d ↦ let u = r (omega (arith, count-later x i (picks q (suc i) k) d)) in (omega (arith, u.0), u.1)
    ]
    go false e h r = let u = r h in (omega (arith, u.0), u.1)

pub each_long : (g : ℕ → ℕ) (xs : List ℕ) → length (each g xs) ≡ length xs
unfolding each
each_long g [] = refl
each_long g (x ∷ xs) = ap suc (each_long g xs)

pub each_append : (g : ℕ → ℕ) (xs ys : List ℕ) → each g (xs ++ ys) ≡ each g xs ++ each g ys
unfolding each
each_append g [] ys = refl
each_append g (x ∷ xs) ys = ap (λ l. g x ∷ l) (each_append g xs ys)

module _ (q : ℕ → Bool) where
  -- one number less to look at
  pub pick-step : (n i : ℕ) → i < n → picks q i (n - i) ≡ cond (q i) (i ∷ picks q (i + 1) (n - (i + 1))) (picks q (i + 1) (n - (i + 1)))
  unfolding picks
  pick-step n i h = let e : n - i ≡ suc (n - (i + 1)) = omega arith in ap (picks q i) e ∙ (rw add-one refl)

  pub pick_end : (n i : ℕ) → n ≤ i → picks q i (n - i) ≡ []
  unfolding picks
  pick_end n i h = let e : n - i ≡ 0 = omega arith in ap (picks q i) e

  -- one number more that was looked at
  pub pick-snoc : (i k : ℕ) → picks q i (suc k) ≡ picks q i k ++ cond (q (i + k)) ((i + k) ∷ []) []
  unfolding picks
  pick-snoc i zero = let e : i + 0 ≡ i = omega arith in go (q i) ∙ ap (λ (j : ℕ). cond (q j) (j ∷ []) []) (sym e)
    where
      go : (b : Bool) → cond b (i ∷ []) [] ≡ cond b (i ∷ []) []
      go b = refl
  pick-snoc i (suc k) = go (q i) (pick-snoc (suc i) k ∙ ap (λ (j : ℕ). picks q (suc i) k ++ cond (q j) (j ∷ []) []) (let e : suc i + k ≡ i + suc k = omega arith in e))
    where
      go : (b : Bool) → picks q (suc i) (suc k) ≡ picks q (suc i) k ++ cond (q (i + suc k)) ((i + suc k) ∷ []) []
          → cond b (i ∷ picks q (suc i) (suc k)) (picks q (suc i) (suc k)) ≡ cond b (i ∷ picks q (suc i) k) (picks q (suc i) k) ++ cond (q (i + suc k)) ((i + suc k) ∷ []) []
      go true e = ap (λ l. i ∷ l) e
      go false e = e

  -- some numbers, and then the others
  pub pick-parts : (i j k : ℕ) → picks q i (j + k) ≡ picks q i j ++ picks q (i + j) k
  unfolding picks
  pick-parts i zero k = let e : 0 + k ≡ k = omega arith in let f : i ≡ i + 0 = omega arith in ap₂ (λ (i k : ℕ). picks q i k) f e
  pick-parts i (suc j) k =
      let e : suc j + k ≡ suc (j + k) = omega arith in
      let f : suc i + j ≡ i + suc j = omega arith in
      ap (picks q i) e ∙ go (q i) (pick-parts (suc i) j k ∙ ap (λ (n : ℕ). picks q (suc i) j ++ picks q n k) f)
    where
      go : (b : Bool) → picks q (suc i) (j + k) ≡ picks q (suc i) j ++ picks q (i + suc j) k
          → cond b (i ∷ picks q (suc i) (j + k)) (picks q (suc i) (j + k)) ≡ cond b (i ∷ picks q (suc i) j) (picks q (suc i) j) ++ picks q (i + suc j) k
      go true e = ap (λ l. i ∷ l) e
      go false e = e

  -- by a test that says the same
  pub pick-test : (r : ℕ → Bool) (i k : ℕ) → ((j : ℕ) → i ≤ j → j < i + k → q j ≡ r j) → picks q i k ≡ picks r i k
  unfolding picks
  pick-test r i zero n = refl
  pick-test r i (suc k) n = ap₂ (λ (b : Bool) (l : List ℕ). cond b (i ∷ l) l) (n i (omega arith) (omega arith)) (pick-test r (suc i) k (λ j a b. n j (omega arith) (omega arith)))
