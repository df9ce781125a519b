-- The lowest number of a kind.
--
--   lowest-one == there is one answer
--   lowest-iff == `lowest` finds it, for a test whose meaning is known and a kind below a bound
--   test-one   == two tests that say the same are the same
use mathlib.Core.Path.{◌≡◌, refl, sym, ap, ◌∙◌, subst}
use mathlib.Core.Logic.{inl, inr, ◌↔◌}
use mathlib.Core.Bool.{Bool, true, false, So, false≢true}
use mathlib.Core.Option.{Option, none, some}
use Prim.Native.Nat.{ℕ, zero, suc, ◌+◌, ◌≤◌, ◌<◌}
use native.Mathlib.Omega.{arith}
use Rattle.laws.specs.Lowest.{Lowest, lowest}
use Rattle.laws.proofs.Tests.{eq?}

pub lowest-one : (A : ℕ → Type 0) (a b : Option ℕ) → Lowest A a → Lowest A b → a ≡ b
lowest-one A none none h k = refl
lowest-one A none (some y) h k = absurd (h y k.0)
lowest-one A (some x) none h k = absurd (k x h.0)
lowest-one A (some x) (some y) h k = ap some (omega (arith, h.1 y k.0, k.1 x h.0))

-- i, i + 1, .. up to the bound are left to try, and nothing below i is of the kind
pub lowest-iff : (t : ℕ → Bool) (A : ℕ → Type 0) (n : ℕ) → ((x : ℕ) → x < n → So (t x) ↔ A x) → ((x : ℕ) → A x → x < n)
    → (k i : ℕ) → k + i ≡ n → ((y : ℕ) → A y → i ≤ y) → Lowest A (lowest t k i)
unfolding lowest
lowest-iff t A n q b zero i e l = λ y a. omega (arith, b y a, l y a)
lowest-iff t A n q b (suc k) i e l = go (t i) refl (lowest-iff t A n q b k (suc i) (omega arith))
  where
    go : (c : Bool) → t i ≡ c → (((y : ℕ) → A y → suc i ≤ y) → Lowest A (lowest t k (suc i))) → Lowest A (elim c [ true ↦ some i | false ↦ lowest t k (suc i) ])
    go true h r = ((q i (omega arith)).0 h, l)
    go false h r = r (λ y a. elim (eq? y i) [ inl z ↦ absurd (false≢true (sym h ∙ (q i (omega arith)).1 (subst A z a))) | inr z ↦ omega (arith, l y a) ])

pub test-one : {A : Type 0} (a b : Bool) → So a ↔ A → So b ↔ A → a ≡ b
test-one true true p q = refl
test-one true false p q = sym (q.1 (p.0 refl))
test-one false true p q = p.1 (q.0 refl)
test-one false false p q = refl
