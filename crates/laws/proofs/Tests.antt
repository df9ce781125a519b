-- What tests say. A test passes when `So b`, that is `b ≡ true`; not `T b` of lib.Dec, which computes, so that no `_` is ever found.
--
--   off, so-not, test           == a test that does not pass; a test passes or it is false
--   and-iff, or-iff, not_iff    == joined tests say what their parts say, joined
--   yes_iff, no_iff, test-one   == a test whose answer is known; two tests that say the same are one
--   so-eq, so-lt, so-le         == the tests of numbers
--   eq?, three, last?           == cases on numbers
--   so-all, so-any              == the tests over all numbers below a bound
--   all-iff, any-iff            == the same over a test whose meaning is known
use mathlib.Core.Path.{◌≡◌, refl, sym, ◌∙◌}
use mathlib.Core.Logic.{◌≢◌, ◌↔◌, ◌⊎◌, inl, inr}
use mathlib.Core.Bool.{Bool, true, false, not, ◌&&◌, ◌||◌, So, false≢true}
use Prim.Native.Nat.{ℕ, zero, suc, ◌≤◌, ◌<◌}
use native.Mathlib.Nat.{not-suc-le-zero}
use native.Mathlib.Decide.{ℕ_discrete, dec_lt}
use native.Mathlib.Omega.{arith}
use lib.Dec.{eqb, ltb, leb}
use borrow.Author.Tests.{eqb-true, eq-eqb, ltb-true, lt-ltb, leb-true, le-leb}
use Rattle.laws.specs.Tests.{◌⇒◌, all, any}

pub off : {b : Bool} → (So b → ⊥) → b ≡ false
off {b = true} h = absurd (h refl)
off {b = false} h = refl

pub so-not : {b : Bool} → So (not b) ↔ (So b → ⊥)
so-not {b = true} = (λ t u. false≢true t, λ h. absurd (h refl))
so-not {b = false} = (λ t u. false≢true u, λ h. refl)

pub test : (b : Bool) → So b ⊎ (b ≡ false)
test true = inl refl
test false = inr refl

-- tests joined, and what they say
pub and-iff : {a b : Bool} {A B : Type 0} → So a ↔ A → So b ↔ B → So (a && b) ↔ (A × B)
and-iff {a = true} p q = (λ t. (p.0 refl, q.0 t), λ t. q.1 t.1)
and-iff {a = false} p q = (λ t. absurd (false≢true t), λ t. absurd (false≢true (p.1 t.0)))

pub or-iff : {a b : Bool} {A B : Type 0} → So a ↔ A → So b ↔ B → So (a || b) ↔ (A ⊎ B)
or-iff {a = true} p q = (λ t. inl (p.0 refl), λ t. refl)
or-iff {a = false} p q = (λ t. inr (q.0 t), λ t. elim t [ inl u ↦ absurd (false≢true (p.1 u)) | inr u ↦ q.1 u ])

pub not_iff : {a : Bool} {A : Type 0} → So a ↔ A → So (not a) ↔ (A → ⊥)
not_iff p = (λ t u. so-not.0 t (p.1 u), λ h. so-not.1 (λ t. h (p.0 t)))

pub same-iff : {a : Bool} → So a ↔ So a
same-iff = (λ t. t, λ t. t)

pub imp-iff : {a b : Bool} {B : Type 0} → So b ↔ B → So (a ⇒ b) ↔ (So a → B)
imp-iff {a = true} q = (λ t u. q.0 t, λ t. q.1 (t refl))
imp-iff {a = false} q = (λ t u. absurd (false≢true u), λ t. refl)

pub yes_iff : {A : Type 0} → A → So true ↔ A
yes_iff a = (λ t. a, λ t. refl)

pub no_iff : {A : Type 0} → (A → ⊥) → So false ↔ A
no_iff n = (λ t. absurd (false≢true t), λ a. absurd (n a))

pub test-one : {a b : Bool} {A : Type 0} → So a ↔ A → So b ↔ A → a ≡ b
test-one {a = true} p q = sym (q.1 (p.0 refl))
test-one {a = false} p q = sym (off (λ t. false≢true (p.1 (q.0 t))))

pub so-eq : {m n : ℕ} → So (eqb m n) ↔ (m ≡ n)
so-eq {m} {n} = (eqb-true m n, eq-eqb m n)

pub so-lt : {m n : ℕ} → So (ltb m n) ↔ (m < n)
so-lt {m} {n} = (ltb-true m n, lt-ltb m n)

pub so-le : {m n : ℕ} → So (leb m n) ↔ (m ≤ n)
so-le {m} {n} = (leb-true m n, le-leb m n)

pub eq? : (m n : ℕ) → (m ≡ n) ⊎ (m ≢ n)
eq? m n = elim (ℕ_discrete m n) [ yes e ↦ inl e | no d ↦ inr d ]

pub three : (m n : ℕ) → (m < n) ⊎ ((m ≡ n) ⊎ (n < m))
three m n = elim (dec_lt m n) [ yes h ↦ inl h | no h ↦ elim (eq? m n) [ inl e ↦ inr (inl e) | inr d ↦ inr (inr (omega arith)) ] ]

-- a bound's last number, or one below it
pub last? : {i n : ℕ} → i < suc n → (i ≡ n) ⊎ (i < n)
last? {i} {n} h = elim (eq? i n) [ inl e ↦ inl e | inr d ↦ inr (omega arith) ]

pub so-all : (n : ℕ) (p : ℕ → Bool) → So (all n p) ↔ ((i : ℕ) → i < n → So (p i))
unfolding all
so-all zero p = (λ t i h. absurd (not-suc-le-zero h), λ t. refl)
so-all (suc n) p = go (p n) refl (so-all n p)
  where
    go : (b : Bool) → p n ≡ b → So (all n p) ↔ ((i : ℕ) → i < n → So (p i)) → So (elim b [ true ↦ all n p | false ↦ false ]) ↔ ((i : ℕ) → i < suc n → So (p i))
    go true e r = (λ t i h. elim (last? h) [ inl q ↦ rw q (e) | inr l ↦ r.0 t i l ], λ t. r.1 (λ i h. t i (omega arith)))
    go false e r = (λ t. absurd (false≢true t), λ t. sym e ∙ t n (omega arith))

pub so-any : (n : ℕ) (p : ℕ → Bool) → So (any n p) ↔ ((i : ℕ) × (i < n) × So (p i))
unfolding any
so-any zero p = (λ t. absurd (false≢true t), λ t. absurd (not-suc-le-zero t.1))
so-any (suc n) p = go (p n) refl (so-any n p)
  where
    go : (b : Bool) → p n ≡ b → So (any n p) ↔ ((i : ℕ) × (i < n) × So (p i)) → So (elim b [ true ↦ true | false ↦ any n p ]) ↔ ((i : ℕ) × (i < suc n) × So (p i))
    go true e r = (λ t. (n, omega arith, e), λ t. refl)
    go false e r = (λ t. let s = r.0 t in (s.0, omega arith, s.2), λ t. elim (last? t.1) [ inl q ↦ absurd (false≢true (sym e ∙ (rw q at t.2))) | inr l ↦ r.1 (t.0, l, t.2) ])

-- the same over a test whose meaning is known
pub all-iff : {n : ℕ} {p : ℕ → Bool} {A : ℕ → Type 0} → ((i : ℕ) → So (p i) ↔ A i) → So (all n p) ↔ ((i : ℕ) → i < n → A i)
all-iff {n} {p} q = (λ t i h. (q i).0 ((so-all n p).0 t i h), λ t. (so-all n p).1 (λ i h. (q i).1 (t i h)))

pub any-iff : {n : ℕ} {p : ℕ → Bool} {A : ℕ → Type 0} → ((i : ℕ) → So (p i) ↔ A i) → So (any n p) ↔ ((i : ℕ) × (i < n) × A i)
any-iff {n} {p} q =
    (λ t. let s = (so-any n p).0 t in (s.0, s.1, (q s.0).0 s.2), λ t. (so-any n p).1 (t.0, t.1, (q t.0).1 t.2))
