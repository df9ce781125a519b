-- The lowest number that passes a test, as a loop finds it.
--
--   none_below           == nothing is passed over yet
--   more-below           == one more number does not pass
--   lowest-found         == the first that passes is the lowest
--   lowest-nothing       == none passes
use mathlib.Core.Path.{◌≡◌, sym, subst, ◌∙◌}
use mathlib.Core.Logic.{inl, inr}
use mathlib.Core.Bool.{Bool, false, So, false≢true}
use mathlib.Core.Option.{none, some}
use Prim.Native.Nat.{ℕ, ◌+◌, ◌<◌, ◌≤◌}
use native.Mathlib.Decide.{dec_lt}
use native.Mathlib.Omega.{arith}
use Rattle.laws.specs.Lowest.{Lowest, lowest}
use Rattle.laws.proofs.Tests.{eq?}
use Rattle.laws.proofs.Lowest.{lowest-one, lowest-iff}

module _ (t : ℕ → Bool) where
  -- no number below i passes
  abbrev pub NoneBelow : ℕ → Type 0
  NoneBelow i = (k : ℕ) → k < i → t k ≡ false

  pub none_below : NoneBelow 0
  none_below k h = absurd (omega arith)

  pub more-below : (i : ℕ) → NoneBelow i → t i ≡ false → NoneBelow (i + 1)
  more-below i h e k l = elim (eq? k i) [ inl q ↦ subst (λ (k : ℕ). t k ≡ false) (sym q) e | inr d ↦ h k (omega arith) ]

  module _ (n : ℕ) where
    Passes : ℕ → Type 0
    Passes k = (k < n) × So (t k)

    found : Lowest Passes (lowest t n 0)
    unfolding Passes
    found = lowest-iff t Passes n (λ k h. (λ u. (h, u), λ p. p.1)) (λ k p. p.0) n 0 (omega arith) (λ k p. omega arith)

    -- what passes is not below i
    at_least : (i : ℕ) → NoneBelow i → (k : ℕ) → So (t k) → i ≤ k
    at_least i h k u = elim (dec_lt k i) [ yes l ↦ absurd (false≢true (sym (h k l) ∙ u)) | no l ↦ omega arith ]

    pub lowest-found : (i : ℕ) → NoneBelow i → i < n → So (t i) → lowest t n 0 ≡ some i
    unfolding Passes
    lowest-found i h l u = lowest-one Passes (lowest t n 0) (some i) found ((l, u), λ k p. at_least i h k p.1)

    pub lowest-nothing : (i : ℕ) → NoneBelow i → n ≤ i → lowest t n 0 ≡ none
    unfolding Passes
    lowest-nothing i h l = lowest-one Passes (lowest t n 0) none found (λ k p. omega (arith, p.0, at_least i h k p.1))
