-- Numbers sorted by a table that is a strict order.
--
--   sorted-once  == what passes stands in the sorted list once, and nothing else does
--   sorted-keeps == the sorted list keeps the table, where that leads from what passes
use mathlib.Core.Path.{◌≡◌, refl, sym, ap, ◌∙◌}
use mathlib.Core.Logic.{inl, inr}
use mathlib.Core.Bool.{Bool, true, false, cond, So, false≢true}
use mathlib.Core.List.{List, [], ◌∷◌}
use Prim.Native.Nat.{ℕ, zero, suc, ◌≤◌, ◌<◌}
use native.Mathlib.Nat.{not-suc-le-zero}
use native.Mathlib.Decide.{dec_lt}
use native.Mathlib.Omega.{arith}
use Rattle.laws.specs.Places.{count, Before}
use Rattle.laws.specs.Relation.{Table, Transitive}
use Rattle.laws.specs.inner.Sorted.{On, insert, sorted}
use Rattle.laws.proofs.Tests.{off, eq?, last?}
use Rattle.laws.proofs.Places.{pos-here, pos-later, count-here, count-later}
use Rattle.laws.proofs.Counts.{count-append}

-- nothing stands behind what it must precede
abbrev Lined : Table → List ℕ → Type 0
Lined H [] = Unit {0}
Lined H (y ∷ ys) = ((z : ℕ) → 0 < count z ys → So (H z y) → ⊥) × Lined H ys

module _ (H : Table) where
  insert-count : (z x : ℕ) (ys : List ℕ) → count z (insert H x ys) ≡ count z (x ∷ ys)
  unfolding insert
  insert-count z x [] = refl
  insert-count z x (y ∷ ys) = go (H x y) (insert-count z x ys)
    where
      go : (b : Bool) → count z (insert H x ys) ≡ count z (x ∷ ys) → count z (elim b [ true ↦ x ∷ y ∷ ys | false ↦ y ∷ insert H x ys ]) ≡ count z (x ∷ y ∷ ys)
      go true r = refl
      go false r = omega (arith, r, count-append z (y ∷ []) (insert H x ys), count-append z (x ∷ []) (y ∷ ys), count-append z (y ∷ []) ys, count-append z (x ∷ []) ys)

  module _ (tr : Transitive (On H)) (ir : (x : ℕ) → So (H x x) → ⊥) where
    insert-lined : (x : ℕ) (ys : List ℕ) → Lined H ys → Lined H (insert H x ys)
    unfolding insert count Transitive
    insert-lined x [] l = (λ z h t. not-suc-le-zero h, tt)
    insert-lined x (y ∷ ys) l = go (H x y) refl (insert-lined x ys l.1)
      where
        go : (b : Bool) → H x y ≡ b → Lined H (insert H x ys) → Lined H (elim b [ true ↦ x ∷ y ∷ ys | false ↦ y ∷ insert H x ys ])
        go true e r = (front, l)
          where
            front : (z : ℕ) → 0 < count z (y ∷ ys) → So (H z x) → ⊥
            front z h t = elim (eq? z y) [
              | inl q ↦ ir x (tr x y x e (rw q at t))
              | inr n ↦ l.0 z (omega (arith, count-later z y ys n)) (tr z x y t e)
            ]
        go false e r = (front, r)
          where
            front : (z : ℕ) → 0 < count z (insert H x ys) → So (H z y) → ⊥
            front z h t = elim (eq? z x) [
              | inl q ↦ false≢true (sym e ∙ (rw q at t))
              | inr n ↦ l.0 z (omega (arith, count-later z x ys n, insert-count z x ys)) t
            ]

    lined-before : (xs : List ℕ) → Lined H xs → (x y : ℕ) → So (H x y) → 0 < count x xs → Before xs x y
    unfolding count
    lined-before [] l x y t h = absurd (not-suc-le-zero h)
    lined-before (z ∷ zs) l x y t h =
        elim (eq? x z) [
          | inl e ↦ elim (eq? y z) [
            | inl q ↦ absurd (ir x (rw (q ∙ sym e) at t))
            | inr n ↦ omega (arith, pos-here x z zs e, pos-later y z zs n)
          ]
          | inr d ↦ let r : 0 < count x zs = omega (arith, count-later x z zs d) in elim (eq? y z) [
            | inl q ↦ absurd (l.0 x r (rw q at t))
            | inr n ↦ omega (arith, pos-later x z zs d, pos-later y z zs n, lined-before zs l.1 x y t r)
          ]
        ]

module _ (t : ℕ → Bool) (H : Table) where
  -- what passes below k stands in the list once, and nothing else does
  sorted-count : (k x : ℕ) → (x < k → count x (sorted t H k) ≡ cond (t x) 1 0) × (k ≤ x → count x (sorted t H k) ≡ 0)
  unfolding sorted count
  sorted-count zero x = (λ h. absurd (not-suc-le-zero h), λ h. refl)
  sorted-count (suc k) x = go (t k) refl (sorted-count k x)
    where
      go : (b : Bool) → t k ≡ b → (x < k → count x (sorted t H k) ≡ cond (t x) 1 0) × (k ≤ x → count x (sorted t H k) ≡ 0)
          → (x < suc k → count x (elim b [ true ↦ insert H k (sorted t H k) | false ↦ sorted t H k ]) ≡ cond (t x) 1 0)
          × (suc k ≤ x → count x (elim b [ true ↦ insert H k (sorted t H k) | false ↦ sorted t H k ]) ≡ 0)
      go true e r = (
        λ h. elim (last? h) [
          | inl q ↦ insert-count H x k (sorted t H k) ∙ count-here x k (sorted t H k) q ∙ ap suc (r.1 (omega (arith, q))) ∙ sym (ap (λ b. cond b 1 0) (ap t q ∙ e))
          | inr l ↦ insert-count H x k (sorted t H k) ∙ count-later x k (sorted t H k) (omega arith) ∙ r.0 l
        ],
        λ h. insert-count H x k (sorted t H k) ∙ count-later x k (sorted t H k) (omega arith) ∙ r.1 (omega arith),
      )
      go false e r = (
        λ h. elim (last? h) [ inl q ↦ r.1 (omega (arith, q)) ∙ sym (ap (λ b. cond b 1 0) (ap t q ∙ e)) | inr l ↦ r.0 l ],
        λ h. r.1 (omega arith),
      )

  pub sorted-once : (n : ℕ) → ((x : ℕ) → So (t x) → x < n) → (x : ℕ) → count x (sorted t H n) ≡ cond (t x) 1 0
  sorted-once n b x = elim (dec_lt x n) [
    | yes h ↦ (sorted-count n x).0 h
    | no h ↦ (sorted-count n x).1 (omega arith) ∙ sym (ap (λ b. cond b 1 0) (off (λ t. h (b x t))))
  ]

  module _ (tr : Transitive (On H)) (ir : (x : ℕ) → So (H x x) → ⊥) where
    sorted-lined : (k : ℕ) → Lined H (sorted t H k)
    unfolding sorted
    sorted-lined zero = tt
    sorted-lined (suc k) = go (t k) (sorted-lined k)
      where
        go : (b : Bool) → Lined H (sorted t H k) → Lined H (elim b [ true ↦ insert H k (sorted t H k) | false ↦ sorted t H k ])
        go true l = insert-lined H tr ir k (sorted t H k) l
        go false l = l

    pub sorted-keeps : (n : ℕ) → ((x : ℕ) → So (t x) → x < n) → (x y : ℕ) → So (t x) → So (H x y) → Before (sorted t H n) x y
    sorted-keeps n b x y u h = lined-before H tr ir (sorted t H n) (sorted-lined n) x y h (omega (arith, sorted-once n b x ∙ ap (λ b. cond b 1 0) u))
