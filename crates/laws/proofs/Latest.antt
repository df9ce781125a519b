-- The last number that passes a test.
--
--   latest-of                              == `last_of` finds it
--   last_none, last_on, last_off, last-all == as a loop finds it: nothing looked at; one more number, that passes or does not; everything looked at
use mathlib.Core.Path.{◌≡◌, refl, sym, ap, ◌∙◌}
use mathlib.Core.Logic.{inl, inr}
use mathlib.Core.Bool.{Bool, true, false, cond, So, false≢true}
use Prim.Native.Nat.{ℕ, zero, suc, ◌+◌, ◌<◌, ◌≤◌}
use native.Mathlib.Nat.{not-suc-le-zero}
use native.Mathlib.Numerals.{add-one}
use native.Mathlib.Omega.{arith}
use Rattle.laws.specs.Latest.{last_of, Latest, nobody-yet, at}
use Rattle.laws.proofs.Tests.{last?}

module _ (t : ℕ → Bool) (w : ℕ → ℕ) (d : ℕ) where
  pub latest-of : (k : ℕ) → Latest t w d k (last_of t w d k)
  unfolding last_of
  latest-of zero = nobody-yet refl (λ i h. absurd (not-suc-le-zero h))
  latest-of (suc k) = go (t k) refl (latest-of k)
    where
      -- k does not pass, so it is another
      passed : t k ≡ false → (i : ℕ) → i < suc k → So (t i) → i < k
      passed e i h c = elim (last? h) [ inl q ↦ absurd (false≢true (sym e ∙ rw q at c)) | inr l ↦ l ]

      go : (b : Bool) → t k ≡ b → Latest t w d k (last_of t w d k) → Latest t w d (suc k) (cond b (w k) (last_of t w d k))
      go true e s = at k (omega arith) refl e (λ i h c. omega arith)
      go false e (nobody-yet q h) = nobody-yet q (λ i b c. h i (passed e i b c) c)
      go false e (at j b q c h) = at j (omega arith) q c (λ i b' c'. h i (passed e i b' c') c')

  pub last_none : {v : ℕ} → v ≡ d → v ≡ last_of t w d 0
  unfolding last_of
  last_none e = e

  pub last_on : {v : ℕ} (i : ℕ) → So (t i) → v ≡ w i → v ≡ last_of t w d (i + 1)
  unfolding last_of
  last_on i p e = e ∙ sym (rw (add-one, last_of) (ap (λ b. cond b (w i) (last_of t w d i)) p))

  pub last_off : {v : ℕ} (i : ℕ) → t i ≡ false → v ≡ last_of t w d i → v ≡ last_of t w d (i + 1)
  unfolding last_of
  last_off i p e = e ∙ sym (rw (add-one, last_of) (ap (λ b. cond b (w i) (last_of t w d i)) p))

  pub last-all : {v : ℕ} (i n : ℕ) → i ≤ n → n ≤ i → v ≡ last_of t w d i → v ≡ last_of t w d n
  last-all i n a b e = let q : i ≡ n = omega arith in e ∙ ap (λ (k : ℕ). last_of t w d k) q
