-- What is wrong comes before what is said.
--
--   ranked-wrong, ranked-model, ranked-short, ranked-says == what is answered, and what is left in the buffer, in each case
--   ranked-one == no second answer, and no second state of the buffer, where what is said settles both
use mathlib.Core.Path.{◌≡◌, refl, sym, ◌∙◌}
use mathlib.Core.Logic.{inl, inr}
use mathlib.Core.Bool.{false, So, false≢true}
use mathlib.Core.List.{List}
use Prim.Native.Nat.{ℕ, ◌≤◌, ◌<◌}
use native.Mathlib.Decide.{dec_lt}
use native.Mathlib.Omega.{arith}
use lib.ListN.{length}
use Rattle.laws.proofs.Tests.{test}
use Rattle.pairs.specs.Kept.{modelled}
use Rattle.desk.specs.AnswerNumbers.{NO-ROOM, NO-MODEL}
use Rattle.desk.specs.Text.{text_number}
use Rattle.desk.specs.Ranked.{Ranked}

module _ (text : List ℕ) (m size : ℕ) (S : ℕ → List ℕ → Type 0) (before : List ℕ) where
  pub ranked-wrong : 0 < text_number text → Ranked text m size S before before (text_number text)
  ranked-wrong w = record {
    wrong = λ _. (refl, refl);
    model = λ z. absurd (omega (arith, z));
    short = λ z. absurd (omega (arith, z));
    says = λ z. absurd (omega (arith, z));
  }

  module _ (z : text_number text ≡ 0) where
    pub ranked-model : modelled m ≡ false → Ranked text m size S before before NO-MODEL
    ranked-model e = record {
      wrong = λ w. absurd (omega (arith, z));
      model = λ _ _. (refl, refl);
      short = λ _ k. absurd (false≢true (sym e ∙ k));
      says = λ _ k. absurd (false≢true (sym e ∙ k));
    }

    module _ (k : So (modelled m)) where
      pub ranked-short : length before < size → Ranked text m size S before before NO-ROOM
      ranked-short h = record {
        wrong = λ w. absurd (omega (arith, z));
        model = λ _ e. absurd (false≢true (sym e ∙ k));
        short = λ _ _ _. (refl, refl);
        says = λ _ _ l. absurd (omega arith);
      }

      pub ranked-says : size ≤ length before → (after : List ℕ) (r : ℕ) → S r after → Ranked text m size S before after r
      ranked-says h after r s = record {
        wrong = λ w. absurd (omega (arith, z));
        model = λ _ e. absurd (false≢true (sym e ∙ k));
        short = λ _ _ l. absurd (omega arith);
        says = λ _ _ _. s;
      }

  pub ranked-one : ((r s : ℕ) (a b : List ℕ) → S r a → S s b → (r ≡ s) × (a ≡ b))
      → (a b : List ℕ) (r s : ℕ) → Ranked text m size S before a r → Ranked text m size S before b s → (r ≡ s) × (a ≡ b)
  ranked-one one a b r s p q = elim (dec_lt 0 (text_number text)) [
    | yes g ↦ both (p.wrong g) (q.wrong g)
    | no g ↦ elim (test (modelled m)) [
      | inr e ↦ both (p.model (omega arith) e) (q.model (omega arith) e)
      | inl k ↦ elim (dec_lt (length before) size) [
        | yes h ↦ both (p.short (omega arith) k h) (q.short (omega arith) k h)
        | no h ↦ one r s a b (p.says (omega arith) k (omega arith)) (q.says (omega arith) k (omega arith))
      ]
    ]
  ]
    where
      both : {x y n : ℕ} {xs ys zs : List ℕ} → (x ≡ n) × (xs ≡ zs) → (y ≡ n) × (ys ≡ zs) → (x ≡ y) × (xs ≡ ys)
      both (p, q) (r, s) = (p ∙ sym r, q ∙ sym s)
