-- Numbers in a row that pass a test.
--
--   picks-same            == two tests that pass the same pick the same
--   picks-none            == a test that passes nothing picks nothing
--   picks-add, picks-drop == a test that passes one number more, behind all others, or the first one less
use mathlib.Core.Path.{◌≡◌, refl, sym, ap, ap₂, ◌∙◌}
use mathlib.Core.Logic.{◌≢◌, inl, inr}
use mathlib.Core.Bool.{Bool, true, false, cond, So, false≢true}
use mathlib.Core.List.{List, [], ◌∷◌, ◌++◌}
use Prim.Native.Nat.{ℕ, zero, suc, ◌+◌, ◌<◌, ◌≤◌}
use native.Mathlib.Omega.{arith}
use Rattle.laws.specs.Picks.{picks}
use Rattle.laws.proofs.Tests.{off, eq?}

pub picks-same : (q q' : ℕ → Bool) (i k : ℕ) → ((j : ℕ) → i ≤ j → j < i + k → q j ≡ q' j) → picks q i k ≡ picks q' i k
unfolding picks
picks-same q q' i zero h = refl
picks-same q q' i (suc k) h = ap₂ (λ (b : Bool) (l : List ℕ). cond b (i ∷ l) l) (h i (omega arith) (omega arith)) (picks-same q q' (suc i) k (λ j a b. h j (omega arith) (omega arith)))

pub picks-none : (q : ℕ → Bool) (i k : ℕ) → ((j : ℕ) → i ≤ j → j < i + k → q j ≡ false) → picks q i k ≡ []
unfolding picks
picks-none q i zero h = refl
picks-none q i (suc k) h = ap₂ (λ (b : Bool) (l : List ℕ). cond b (i ∷ l) l) (h i (omega arith) (omega arith)) (picks-none q (suc i) k (λ j a b. h j (omega arith) (omega arith)))

module _ (q q' : ℕ → Bool) (n x : ℕ) (same : (j : ℕ) → j < n → j ≢ x → q j ≡ q' j) where
  pub picks-add : (i k : ℕ) → i + k ≡ n → i ≤ x → x < n → So (q' x) → ((j : ℕ) → j < n → So (q j) → j < x) → picks q' i k ≡ picks q i k ++ (x ∷ [])
  unfolding picks
  picks-add i zero z a b s h = absurd (omega arith)
  picks-add i (suc k) z a b s h = elim (eq? i x) [
    | inl e ↦
        let later : (j : ℕ) → suc i ≤ j → j < suc i + k → q j ≡ false = λ j c d. off (λ u. omega (arith, h j (omega arith) u)) in
        let qi : q i ≡ false = off (λ u. omega (arith, h i (omega arith) u)) in
        let ri : q' i ≡ true = ap q' e ∙ s in
        ap₂ (λ (b : Bool) (l : List ℕ). cond b (i ∷ l) l) ri (sym (picks-same q q' (suc i) k (λ j c d. same j (omega arith) (omega arith))) ∙ picks-none q (suc i) k later)
        ∙ ap (λ (n : ℕ). n ∷ []) e
        ∙ sym (ap (λ l. l ++ (x ∷ [])) (ap₂ (λ (b : Bool) (l : List ℕ). cond b (i ∷ l) l) qi (picks-none q (suc i) k later)))
    | inr d ↦ step-on (q i) (q' i) (same i (omega arith) d) (picks-add (suc i) k (omega arith) (omega arith) b s h)
  ]
    where
      step-on : (b c : Bool) → b ≡ c → picks q' (suc i) k ≡ picks q (suc i) k ++ (x ∷ []) → cond c (i ∷ picks q' (suc i) k) (picks q' (suc i) k) ≡ cond b (i ∷ picks q (suc i) k) (picks q (suc i) k) ++ (x ∷ [])
      step-on true true e r = ap (λ l. i ∷ l) r
      step-on true false e r = absurd (false≢true (sym e))
      step-on false true e r = absurd (false≢true e)
      step-on false false e r = r

  pub picks-drop : (i k : ℕ) → i + k ≡ n → i ≤ x → x < n → So (q x) → q' x ≡ false → ((j : ℕ) → j < n → So (q j) → x ≤ j) → picks q i k ≡ x ∷ picks q' i k
  unfolding picks
  picks-drop i zero z a b s f h = absurd (omega arith)
  picks-drop i (suc k) z a b s f h = elim (eq? i x) [
    | inl e ↦
        ap₂ (λ (b : Bool) (l : List ℕ). cond b (i ∷ l) l) (ap q e ∙ s) (picks-same q q' (suc i) k (λ j c d. same j (omega arith) (omega arith)))
        ∙ ap (λ (y : ℕ). y ∷ picks q' (suc i) k) e
        ∙ sym (ap (λ (b : Bool). x ∷ cond b (i ∷ picks q' (suc i) k) (picks q' (suc i) k)) (ap q' e ∙ f))
    | inr d ↦
        let qi : q i ≡ false = off (λ u. omega (arith, h i (omega arith) u)) in
        ap (λ (b : Bool). cond b (i ∷ picks q (suc i) k) (picks q (suc i) k)) qi
        ∙ picks-drop (suc i) k (omega arith) (omega arith) b s f h
        ∙ sym (ap (λ (b : Bool). x ∷ cond b (i ∷ picks q' (suc i) k) (picks q' (suc i) k)) (sym (same i (omega arith) d) ∙ qi))
  ]
