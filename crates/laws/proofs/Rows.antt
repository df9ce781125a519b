-- A list given by what stands at each place.
--
--   row-long, row_at, row_out == its length, and its places
--   row-place                 == a place of one that starts at 0
--   row_last                  == one place more
--   row-full, row_more        == what a loop that writes place after place into a list has done, and a turn more
use mathlib.Core.Path.{◌≡◌, refl, sym, ap, ap₂, ◌∙◌}
use mathlib.Core.List.{List, [], ◌∷◌, ◌++◌}
use Prim.Native.Nat.{ℕ, zero, suc, ◌+◌, ◌≤◌, ◌<◌}
use native.Mathlib.Nat.{not-suc-le-zero, add-zero, zero-add}
use native.Mathlib.Numerals.{add-one}
use native.Mathlib.Omega.{arith}
use lib.ListN.{length, get_or, set, drop, length-append, length-drop}
use lib.Seq.{drop-cons, append_snoc, set_at}
use Rattle.laws.specs.ListOf.{row}

module _ {ℓ} {A : Type ℓ} where
  pub row-long : (g : ℕ → A) (i k : ℕ) → length (row g i k) ≡ k
  unfolding row
  row-long g i zero = refl
  row-long g i (suc k) = ap suc (row-long g (suc i) k)

  pub row_at : (g : ℕ → A) (d : A) (i k j : ℕ) → j < k → get_or (row g i k) j d ≡ g (i + j)
  unfolding row
  row_at g d i zero j h = absurd (not-suc-le-zero h)
  row_at g d i (suc k) zero h = ap g (sym (add-zero i))
  row_at g d i (suc k) (suc j) h = row_at g d (suc i) k j (omega arith) ∙ ap g (let q : suc i + j ≡ i + suc j = omega arith in q)

  pub row_out : (g : ℕ → A) (d : A) (i k j : ℕ) → k ≤ j → get_or (row g i k) j d ≡ d
  unfolding row
  row_out g d i zero j h = refl
  row_out g d i (suc k) zero h = absurd (not-suc-le-zero h)
  row_out g d i (suc k) (suc j) h = row_out g d (suc i) k j (omega arith)

  pub row-place : (g : ℕ → A) (d : A) (k j : ℕ) → j < k → get_or (row g 0 k) j d ≡ g j
  row-place g d k j h = row_at g d 0 k j h ∙ ap g (zero-add j)

  pub row_last : (g : ℕ → A) (i k : ℕ) → row g i (suc k) ≡ row g i k ++ g (i + k) ∷ []
  unfolding row
  row_last g i zero = ap (λ j. g j ∷ []) (sym (add-zero i))
  row_last g i (suc k) =
      ap (λ l. g i ∷ l) (row_last g (suc i) k ∙ ap (λ j. row g (suc i) k ++ g j ∷ []) (let q : suc i + k ≡ i + suc k = omega arith in q))

  module _ (g : ℕ → A) (l : List A) (i : ℕ) where
    pub row-full : i ≤ length l → length (row g 0 i ++ drop i l) ≡ length l
    row-full h = rw (length-append, row-long, length-drop) (omega arith)

    pub row_more : i < length l → set (row g 0 i ++ drop i l) i (g i) ≡ row g 0 (i + 1) ++ drop (i + 1) l
    row_more h =
        ap (λ t. set (row g 0 i ++ t) i (g i)) (drop-cons l i (g i) h)
        ∙ set_at (row g 0 i) (get_or l i (g i)) (drop (suc i) l) (g i) i (row-long g 0 i)
        ∙ sym (append_snoc (row g 0 i) (g i) (drop (suc i) l))
        ∙ ap₂ (λ p n. p ++ drop n l)
        (ap (λ j. row g 0 i ++ g j ∷ []) (sym (zero-add i)) ∙ sym (row_last g 0 i) ∙ ap (row g 0) (sym (add-one i)))
        (sym (add-one i))
