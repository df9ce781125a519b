-- Lists built number by number.
--
--   same-snoc               == the same numbers, and one more in both
--   steps-at                == each may follow what stands before it
--   steps_first, steps-join == the first part, and one part after the other
--   steps-same              == where only the numbers count, others in their place change nothing
use mathlib.Core.Path.{sym, subst}
use mathlib.Core.Logic.{inl, inr}
use mathlib.Core.List.{List, [], ◌∷◌, ◌++◌, append-nil}
use Prim.Native.Nat.{ℕ, ◌<◌}
use native.Mathlib.Omega.{arith}
use lib.Seq.{append_snoc}
use Rattle.laws.specs.Places.{count}
use Rattle.laws.specs.inner.Steps.{Steps, Same}
use Rattle.laws.proofs.Tests.{eq?}
use Rattle.laws.proofs.Counts.{count-append}

pub same-snoc : (p q : List ℕ) → Same p q → (c : ℕ) → Same (p ++ (c ∷ [])) (q ++ (c ∷ []))
same-snoc p q e c x = (one_way p q (e x).0, one_way q p (e x).1)
  where
    one_way : (p q : List ℕ) → (0 < count x p → 0 < count x q) → 0 < count x (p ++ (c ∷ [])) → 0 < count x (q ++ (c ∷ []))
    one_way p q h k = elim (eq? (count x p) 0) [
      | inl z ↦ omega (arith, count-append x p (c ∷ []), count-append x q (c ∷ []))
      | inr n ↦ omega (arith, h (omega arith), count-append x q (c ∷ []))
    ]

module _ (R : List ℕ → ℕ → Type 0) where
  pub steps-at : (q p : List ℕ) (c : ℕ) (s : List ℕ) → Steps R q (p ++ c ∷ s) → R (q ++ p) c
  steps-at q [] c s b = rw append-nil b.0
  steps-at q (x ∷ p) c s b = subst (λ (l : List ℕ). R l c) (append_snoc q x p) (steps-at (q ++ (x ∷ [])) p c s b.1)

  pub steps_first : (q p s : List ℕ) → Steps R q (p ++ s) → Steps R q p
  steps_first q [] s b = tt
  steps_first q (x ∷ p) s b = (b.0, steps_first (q ++ (x ∷ [])) p s b.1)

  pub steps-join : (q p s : List ℕ) → Steps R q p → Steps R (q ++ p) s → Steps R q (p ++ s)
  steps-join q [] s a b = rw append-nil at b
  steps-join q (x ∷ p) s a b = (a.0, steps-join (q ++ (x ∷ [])) p s a.1 (subst (λ (l : List ℕ). Steps R l s) (sym (append_snoc q x p)) b))

  pub steps-same : ((p q : List ℕ) (c : ℕ) → Same p q → R p c → R q c) → (p q s : List ℕ) → Same p q → Steps R p s → Steps R q s
  steps-same r p q [] e b = tt
  steps-same r p q (c ∷ s) e b = (r p q c e b.0, steps-same r (p ++ (c ∷ [])) (q ++ (c ∷ [])) s (same-snoc p q e c) b.1)
