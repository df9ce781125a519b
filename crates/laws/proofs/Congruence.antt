-- Tests over numbers look at nothing but what each number gives.
--
--   all-cong, any-cong == the same below the bound, the same in all
use mathlib.Core.Path.{◌≡◌, sym, ◌∙◌}
use mathlib.Core.Bool.{Bool}
use Prim.Native.Nat.{ℕ, ◌<◌}
use Rattle.laws.specs.Tests.{all, any}
use Rattle.laws.proofs.Tests.{so-all, so-any, test-one}

module _ (n : ℕ) {p q : ℕ → Bool} (e : (i : ℕ) → i < n → p i ≡ q i) where
  pub all-cong : all n p ≡ all n q
  all-cong = test-one (so-all n p) (λ t i l. e i l ∙ (so-all n q).0 t i l, λ h. (so-all n q).1 (λ i l. sym (e i l) ∙ h i l))

  pub any-cong : any n p ≡ any n q
  any-cong = test-one (so-any n p) (λ t. let (i, l, u) = (so-any n q).0 t in (i, l, e i l ∙ u), λ h. (so-any n q).1 (h.0, h.1, sym (e h.0 h.1) ∙ h.2))
