-- How a search that tries the numbers in turn comes to its answer.
--
--   tried-none == at first nothing is tried
--   tried-next == a number below which there is no answer is tried
--   tried-some == the answer below the first number that has one is the answer
--   tried-all  == everything is tried, and there is room: there is none
--   full-some  == a list with P is its own first
use mathlib.Core.Path.{◌≡◌, sym, subst}
use mathlib.Core.Logic.{◌⊎◌, inl, inr}
use mathlib.Core.List.{List, [], ◌∷◌, ◌++◌, append-nil}
use mathlib.Core.Option.{none, some}
use Prim.Native.Nat.{ℕ, suc, ◌<◌}
use native.Mathlib.Nat.{not-suc-le-zero}
use native.Mathlib.Omega.{arith}
use lib.ListN.{length, length-append}
use lib.Seq.{append_snoc}
use Rattle.laws.specs.Dict.{◌≼◌, Answer}
use Rattle.laws.specs.inner.TryingInTurn.{ListsOf, Tried}
use Rattle.laws.proofs.Tests.{last?, three}

module _ (P : List ℕ → Type 0) (p : List ℕ) where
  pub tried-none : Tried P p 0
  unfolding Tried
  tried-none c s h = absurd (not-suc-le-zero h)

  pub tried-next : (i : ℕ) → Tried P p i → Answer P (p ++ (i ∷ [])) none → Tried P p (suc i)
  unfolding Tried
  tried-next i t a c s h k =
      elim (last? h) [ inl e ↦ a s (rw append_snoc (subst (λ (c : ℕ). P (p ++ c ∷ s)) e k)) | inr l ↦ t c s l k ]

  pub full-some : P p → Answer P p (some [])
  full-some k = (rw append-nil k, λ s _. tt)

  module _ (n m : ℕ) (z : ListsOf P n m) where
    pub tried-some : (i : ℕ) (r : List ℕ) → Tried P p i → Answer P (p ++ (i ∷ [])) (some r) → Answer P p (some (i ∷ r))
    unfolding Tried
    tried-some i r t a = (here, first)
      where
        here : P (p ++ i ∷ r)
        here = rw append_snoc at a.0

        first : (s : List ℕ) → P (p ++ s) → i ∷ r ≼ s
        first [] k = absurd (omega (arith, z.long _ k, z.long _ here, length-append p [], length-append p (i ∷ r)))
        first (c ∷ s) k = go (three c i)
          where
            go : (c < i) ⊎ ((c ≡ i) ⊎ (i < c)) → i ∷ r ≼ c ∷ s
            go (inl h) = absurd (t c s h k)
            go (inr (inl e)) = inr (sym e, a.1 s (rw append_snoc (subst (λ (c : ℕ). P (p ++ c ∷ s)) e k)))
            go (inr (inr h)) = inl h

    pub tried-all : length p < m → Tried P p n → Answer P p none
    unfolding Tried
    tried-all h t [] k = omega (arith, z.long _ k, length-append p [])
    tried-all h t (c ∷ s) k = t c s (z.under p c s k) k
