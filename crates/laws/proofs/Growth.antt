-- A table of tests that grows stops growing.
--
--   pairs-bound == n * n pairs at the most
--   pairs-same  == a table that grew and has no more pairs is the same below n
--   pairs-more  == a table that grew by a pair below n has more of them: what a loop that adds pairs may count down by
--   stops       == a growing sequence of tables stands still within n * n steps
use mathlib.Core.Logic.{◌⊎◌, inl, inr}
use mathlib.Core.Bool.{So}
use Prim.Native.Nat.{ℕ, zero, suc, ◌*◌, ◌≤◌, ◌<◌}
use native.Mathlib.Decide.{dec_le}
use native.Mathlib.Omega.{arith}
use Rattle.laws.specs.Relation.{Table}
use Rattle.laws.specs.Sums.{sum, num}
use Rattle.laws.proofs.GrowingTables.{pairs, Still}
use Rattle.laws.proofs.Sums.{sum-le, sum_bound, sum_same, num-le, num-le⁻¹, num-one}

module _ (n : ℕ) where
  pub pairs-bound : (t : Table) → pairs n t ≤ n * n
  unfolding pairs
  pairs-bound t = sum_bound n n _ (λ x _. omega (arith, sum_bound n 1 (λ y. num (t x y)) (λ y _. num-one (t x y))))

  module _ (s t : Table) (grew : (x y : ℕ) → So (s x y) → So (t x y)) where
    pub pairs-same : pairs n t ≤ pairs n s → (x y : ℕ) → x < n → y < n → So (t x y) → So (s x y)
    unfolding pairs
    pairs-same q x y a b =
        let row : sum n (λ y. num (t x y)) ≤ sum n (λ y. num (s x y)) = sum_same n _ _ (λ x _. sum-le n _ _ (λ y _. num-le _ _ (grew x y))) q x a in
        num-le⁻¹ (t x y) (s x y) (sum_same n _ _ (λ y _. num-le _ _ (grew x y)) row y b)

    pub pairs-more : (x y : ℕ) → x < n → y < n → So (t x y) → (So (s x y) → ⊥) → pairs n s < pairs n t
    pairs-more x y a b h out = elim (dec_le (pairs n t) (pairs n s)) [ yes q ↦ absurd (out (pairs-same q x y a b h)) | no q ↦ omega arith ]

  module _ (t : ℕ → Table) (grow : (k x y : ℕ) → So (t k x y) → So (t (suc k) x y)) where
    -- each step that does not stand still adds a pair
    grows : (m : ℕ) → ((k : ℕ) × (k < m) × Still n t k) ⊎ (m ≤ pairs n (t m))
    unfolding Still
    grows zero = inr (omega arith)
    grows (suc m) = go (grows m) (dec_le (pairs n (t (suc m))) (pairs n (t m)))
      where
        go : ((k : ℕ) × (k < m) × Still n t k) ⊎ (m ≤ pairs n (t m)) → Dec (pairs n (t (suc m)) ≤ pairs n (t m)) → ((k : ℕ) × (k < suc m) × Still n t k) ⊎ (suc m ≤ pairs n (t (suc m)))
        go (inl s) d = inl (s.0, omega arith, s.2)
        go (inr h) (yes q) = inl (m, omega arith, pairs-same (t m) (t (suc m)) (grow m) q)
        go (inr h) (no q) = inr (omega arith)

    pub stops : (k : ℕ) × (k ≤ n * n) × Still n t k
    stops = elim (grows (suc (n * n))) [ inl s ↦ (s.0, omega arith, s.2) | inr h ↦ absurd (omega (arith, pairs-bound (t (suc (n * n))))) ]
