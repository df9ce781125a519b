-- The lowest number that passes a test, as an answer.
--
--   at-lowest, nothing-lowest == how a loop comes to it
--   some-lowest, none-lowest  == what it says
--   lowest-at, lowest-none    == what is found passes and is below the bound; where nothing is found, none passes
--   lowest-any, lowest-not-any == so some number passes, or none
--   lowest-cong               == tests that say the same have the same
use mathlib.Core.Path.{◌≡◌, refl, sym, ap, ◌∙◌, subst}
use mathlib.Core.Bool.{Bool, true, false, So, false≢true}
use mathlib.Core.Option.{Option, none, some}
use Prim.Native.Nat.{ℕ, zero, suc, ◌+◌, ◌≤◌, ◌<◌}
use native.Mathlib.Omega.{arith}
use Rattle.laws.specs.Tests.{any}
use Rattle.laws.specs.Lowest.{Lowest, lowest}
use Rattle.laws.proofs.Tests.{off, so-any}
use Rattle.laws.proofs.Lowest.{lowest-iff}
use Rattle.laws.proofs.LowestLoops.{NoneBelow, lowest-found, lowest-nothing}
use Rattle.pairs.specs.MissingOf.{as_found, record?}
use Rattle.pairs.specs.Found.{Found}
use Rattle.std.specs.Prelude.{Some, None}

-- an answer says what was found
back : (o : Option ℕ) → record? (as_found o) ≡ o
back (some x) = refl
back none = refl

module _ (t : ℕ → Bool) (n : ℕ) where
  pub at-lowest : (i : ℕ) → NoneBelow t i → i < n → So (t i) → Some i ≡ as_found (lowest t n 0)
  at-lowest i h l u = sym (ap as_found (lowest-found t n i h l u))

  pub nothing-lowest : (i : ℕ) → NoneBelow t i → n ≤ i → None ≡ as_found (lowest t n 0)
  nothing-lowest i h l = sym (ap as_found (lowest-nothing t n i h l))

  pub some-lowest : {a : Found} {i : ℕ} → a ≡ as_found (lowest t n 0) → a ≡ Some i → lowest t n 0 ≡ some i
  some-lowest e q = sym (back (lowest t n 0)) ∙ ap record? (sym e ∙ q)

  pub none-lowest : {a : Found} → a ≡ as_found (lowest t n 0) → a ≡ None → lowest t n 0 ≡ none
  none-lowest e q = sym (back (lowest t n 0)) ∙ ap record? (sym e ∙ q)

  pub lowest-is : Lowest (λ k. (k < n) × So (t k)) (lowest t n 0)
  lowest-is = lowest-iff t (λ k. (k < n) × So (t k)) n (λ k h. (λ u. (h, u), λ p. p.1)) (λ k p. p.0) n 0 (omega arith) (λ k p. omega arith)

  pub lowest-at : (i : ℕ) → lowest t n 0 ≡ some i → (i < n) × So (t i)
  lowest-at i e = (subst (Lowest (λ k. (k < n) × So (t k))) e lowest-is).0

  pub lowest-none : lowest t n 0 ≡ none → NoneBelow t n
  lowest-none e k h = off (λ u. subst (Lowest (λ k. (k < n) × So (t k))) e lowest-is k (h, u))

  pub lowest-any : (i : ℕ) → lowest t n 0 ≡ some i → So (any n t)
  lowest-any i e = let p = lowest-at i e in (so-any n t).1 (i, p.0, p.1)

  pub lowest-not-any : lowest t n 0 ≡ none → any n t ≡ false
  lowest-not-any e = off (λ u. let (i, l, p) = (so-any n t).0 u in false≢true (sym (lowest-none e i l) ∙ p))

pub lowest-cong : {t u : ℕ → Bool} (k i : ℕ) → ((j : ℕ) → i ≤ j → j < i + k → t j ≡ u j) → lowest t k i ≡ lowest u k i
unfolding lowest
lowest-cong zero i e = refl
lowest-cong {t} {u} (suc k) i e = rw (e i (omega arith) (omega arith), lowest) (go (u i) (lowest-cong k (suc i) (λ j h l. e j (omega arith) (omega arith))))
  where
    go : (b : Bool) {p q : Option ℕ} → p ≡ q → ◌≡◌ {A = Option ℕ} (elim b [ true ↦ some i | false ↦ p ]) (elim b [ true ↦ some i | false ↦ q ])
    go true e = refl
    go false e = e
