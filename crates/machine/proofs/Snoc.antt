-- One number more at a list's end.
--
--   in-snoc, last-in, snoc-cases == what stands in the longer list
--   snoc-other                   == how often, of another number
--   flag-set                     == flags that tell which numbers stand in a list, and one number more
use mathlib.Core.Path.{◌≡◌, refl, sym, ◌∙◌, subst}
use mathlib.Core.Logic.{◌≢◌, ◌⊎◌, inl, inr, ◌↔◌}
use mathlib.Core.Bool.{Bool, true, false, So}
use mathlib.Core.List.{List, [], ◌∷◌, ◌++◌}
use Prim.Native.Nat.{ℕ, suc, ◌<◌}
use native.Mathlib.Omega.{arith}
use lib.ListN.{length, get_or, set}
use lib.Seq.{get_or-set_same, get_or-set_other}
use Rattle.laws.specs.Places.{count, Before}
use Rattle.laws.proofs.Tests.{eq?}
use Rattle.laws.proofs.Places.{pos-here, pos-lt, count-here, count-later}
use Rattle.laws.proofs.Counts.{count-append}
use Rattle.laws.proofs.Prefixes.{pos-in, pos-out}
use Rattle.machine.proofs.History.{◌∈◌}

module _ (p : List ℕ) (c : ℕ) where
  pub in-snoc : (x : ℕ) → x ∈ p → x ∈ (p ++ (c ∷ []))
  in-snoc x h = omega (arith, count-append x p (c ∷ []))

  pub last-in : c ∈ (p ++ (c ∷ []))
  last-in = omega (arith, count-append c p (c ∷ []), count-here c c [] refl)

  pub snoc-other : (x : ℕ) → x ≢ c → count x (p ++ (c ∷ [])) ≡ count x p
  unfolding count
  snoc-other x d = omega (arith, count-append x p (c ∷ []), count-later x c [] d)

  pub snoc-last : count c (p ++ (c ∷ [])) ≡ suc (count c p)
  unfolding count
  snoc-last = omega (arith, count-append c p (c ∷ []), count-here c c [] refl)

  pub snoc-cases : (x : ℕ) → x ∈ (p ++ (c ∷ [])) → (x ≡ c) ⊎ (x ∈ p)
  snoc-cases x h = elim (eq? x c) [ inl e ↦ inl e | inr d ↦ inr (omega (arith, snoc-other x d)) ]

  pub snoc-before : (x y : ℕ) → x ∈ p → y ∈ p → Before p x y → Before (p ++ (c ∷ [])) x y
  snoc-before x y h k b = omega (arith, pos-in x p (c ∷ []) h, pos-in y p (c ∷ []) k)

  pub before_last : count c p ≡ 0 → (x : ℕ) → x ∈ p → Before (p ++ (c ∷ [])) x c
  before_last z x h = omega (arith, pos-in x p (c ∷ []) h, pos-out c p (c ∷ []) z, pos-here c c [] refl, pos-lt p x h)

pub cons-in : (x c : ℕ) (r : List ℕ) → x ∈ r → x ∈ (c ∷ r)
cons-in x c r h = elim (eq? x c) [ inl e ↦ omega (arith, count-here x c r e) | inr d ↦ omega (arith, count-later x c r d) ]

pub cons-cases : (x c : ℕ) (r : List ℕ) → x ∈ (c ∷ r) → (x ≡ c) ⊎ (x ∈ r)
cons-cases x c r h = elim (eq? x c) [ inl e ↦ inl e | inr d ↦ inr (omega (arith, count-later x c r d)) ]

pub in? : (x : ℕ) (p : List ℕ) → (x ∈ p) ⊎ (count x p ≡ 0)
in? x p = elim (eq? (count x p) 0) [ inl e ↦ inr e | inr d ↦ inl (omega arith) ]

pub flag-set : (f : List Bool) (r : List ℕ) (x y : ℕ) → x < length f → So (get_or f y false) ↔ (y ∈ r) → So (get_or (set f x true) y false) ↔ (y ∈ (x ∷ r))
flag-set f r x y h p = elim (eq? y x) [
  | inl e ↦ (λ _. omega (arith, count-here y x r e), λ _. subst (λ (y : ℕ). So (get_or (set f x true) y false)) (sym e) (get_or-set_same f x true false h))
  | inr d ↦
      let q = get_or-set_other f x y true false d in
      (λ s. cons-in y x r (p.0 (sym q ∙ s)), λ i. q ∙ p.1 (elim (cons-cases y x r i) [ inl e ↦ absurd (d e) | inr j ↦ j ]))
]
