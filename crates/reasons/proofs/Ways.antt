-- Where a chain leads from x to b and none leads back, the way is one.
--
--   reached c x == how many records the chains c lead to from x: fewer with each step
--   step-found  == a step that leads on is found
--   way-runs    == the way leads there
use mathlib.Core.Path.{◌≡◌, refl, sym, subst}
use mathlib.Core.Logic.{◌↔◌}
use mathlib.Core.Bool.{Bool, true, false, So, ◌&&◌, false≢true}
use mathlib.Core.List.{[], ◌∷◌}
use Prim.Native.Nat.{ℕ, zero, suc, ◌≤◌, ◌<◌}
use native.Mathlib.Decide.{dec_le}
use native.Mathlib.Omega.{arith}
use Rattle.laws.specs.Relation.{Rel, Table, Chain, one, more}
use Rattle.laws.specs.Latest.{Latest, nobody-yet, at, last_of}
use Rattle.laws.specs.Sums.{sum, num}
use Rattle.laws.proofs.Sums.{sum_same, sum_bound, num-le, num-le⁻¹, num-one}
use Rattle.laws.proofs.Tests.{and-iff}
use Rattle.laws.proofs.Latest.{latest-of}
use Rattle.trace.specs.Bounds.{RECORDS}
use Rattle.rules.specs.Circle.{Run}
use Rattle.reasons.specs.Ways.{step_of, way_of}

module _ (E : Rel) (rows : (x y : ℕ) → E x y → (x < RECORDS) × (y < RECORDS)) (e c : Table) (q : (x y : ℕ) → So (e x y) ↔ E x y) (r : (x y : ℕ) → So (c x y) ↔ Chain E x y)
    (clear : (x : ℕ) → Chain E x x → ⊥) where
  reached : ℕ → ℕ
  reached x = sum RECORDS (λ v. num (c x v))

  fewer : (x z : ℕ) → E x z → reached z < reached x
  unfolding reached
  fewer x z d = elim (dec_le (sum RECORDS (λ v. num (c x v))) (sum RECORDS (λ v. num (c z v)))) [
    | yes l ↦ absurd (clear z ((r z z).0 (num-le⁻¹ (c x z) (c z z) (sum_same RECORDS (λ v. num (c z v)) (λ v. num (c x v)) grow l z (rows x z d).1) ((r x z).1 (one d)))))
    | no l ↦ omega arith
  ]
    where
      grow : (v : ℕ) → v < RECORDS → num (c z v) ≤ num (c x v)
      grow v _ = num-le (c z v) (c x v) (λ t. (r x v).1 (more d ((r z v).0 t)))

  step-found : (x b : ℕ) → Chain E x b → (So (e x b) → ⊥) → E x (step_of e c x b) × Chain E (step_of e c x b) b
  unfolding step_of
  step-found x b h n = go (last_of (λ z. e x z && c z b) (λ z. z) RECORDS RECORDS) (latest-of (λ z. e x z && c z b) (λ z. z) RECORDS RECORDS)
    where
      first : Chain E x b → (So (e x b) → ⊥) → (z : ℕ) × E x z × Chain E z b
      first (one d) n = absurd (n ((q x b).1 d))
      first (more {y = z} d k) n = (z, d, k)

      go : (v : ℕ) → Latest (λ z. e x z && c z b) (λ z. z) RECORDS RECORDS v → E x v × Chain E v b
      go v (nobody-yet _ none) = let a = first h n in absurd (none a.0 (rows x a.0 a.1).1 ((and-iff (q x a.0) (r a.0 b)).1 (a.1, a.2)))
      go v (at j _ w t _) = subst (λ (z : ℕ). E x z × Chain E z b) (sym w) ((and-iff (q x j) (r j b)).0 t)

  goes : (m x b : ℕ) → Chain E x b → reached x ≤ m → Run E x (way_of e c m x b) b
  unfolding way_of
  goes zero x b h l = absurd (omega (arith, l, none_left x b h))
    where
      none_left : (x b : ℕ) → Chain E x b → 0 < reached x
      none_left x b (one d) = omega (arith, fewer x b d)
      none_left x b (more {y = z} d k) = omega (arith, fewer x z d)
  goes (suc m) x b h l = go (e x b) refl (goes m)
    where
      go : (t : Bool) → e x b ≡ t → ((x b : ℕ) → Chain E x b → reached x ≤ m → Run E x (way_of e c m x b) b)
          → Run E x (elim t [ true ↦ [] | false ↦ step_of e c x b ∷ way_of e c m (step_of e c x b) b ]) b
      go true t rec = (q x b).0 t
      go false t rec =
          let s = step-found x b h (λ u. false≢true (let w : false ≡ true = cc in w)) in
          (s.0, rec (step_of e c x b) b s.1 (omega (arith, fewer x (step_of e c x b) s.0, l)))

  pub way-runs : (x b : ℕ) → Chain E x b → Run E x (way_of e c RECORDS x b) b
  unfolding reached
  way-runs x b h = goes RECORDS x b h (omega (arith, sum_bound RECORDS 1 (λ v. num (c x v)) (λ v _. num-one (c x v))))
