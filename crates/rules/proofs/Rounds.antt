-- Rounds only add; where one adds nothing, no later one does; what is held is the least transitive relation that the rules close.
--
--   gives-mono, step-mono              == more chains and more supposed pairs give no less
--   more-pairs                         == more supposed pairs, more is held
--   chains-grow, chains-later          == chains only grow
--   edge-grow, edge-later              == edges only grow
--   last-held                          == after a last round what is held is what its chains lead to
--   held-join, held-closed, held-least == what is held is transitive, closed under the rules, and the least such relation
--   edge-first, edge-next              == round 0 has rules 1 to 5 and 8; each next one adds what 6 and 7 give from the chains of the one before
use mathlib.Core.Path.{◌≡◌, refl, sym, subst}
use mathlib.Core.Logic.{◌≢◌, ◌⊎◌, inl, inr, ◌↔◌}
use Prim.Native.Nat.{ℕ, zero, suc, ◌+◌, ◌-◌, ◌≤◌}
use native.Mathlib.Nat.{zero-add, suc-add, sub-add_cancel}
use native.Mathlib.Omega.{arith}
use Rattle.laws.specs.Relation.{Rel, Table, ◌⊆◌, Transitive, Chain, one}
use Rattle.laws.specs.inner.Sorted.{On}
use Rattle.laws.proofs.Relation.{chain-mono, chain-join, chain-least}
use Rattle.rules.specs.Frame.{Frame}
use Rattle.rules.specs.Rules.{Gives, rule1, rule2, rule3, rule4, rule5, rule6, rule7, rule8, Step, Chains, Edge, Last, Held}

pub gives-mono : (f : Frame) (K P Q : Table) {A B : Rel} → On P ⊆ On Q → A ⊆ B → {x y r : ℕ} → Gives f K P A x y r → Gives f K Q B x y r
gives-mono f K P Q p h (rule1 k) = rule1 k
gives-mono f K P Q p h (rule2 s n) = rule2 s n
gives-mono f K P Q p h (rule3 L s w d o) = rule3 L s w d o
gives-mono f K P Q p h (rule4 s) = rule4 s
gives-mono f K P Q p h (rule5 s o) = rule5 s o
gives-mono f K P Q p h {x} {y} (rule6 L s w d c) = rule6 L s w d (h x L c)
gives-mono f K P Q p h {x} {y} (rule7 S s w d c) = rule7 S s w d (h S y c)
gives-mono f K P Q p h {x} {y} (rule8 k) = rule8 (p x y k)

pub more-pairs : (f : Frame) (K P Q : Table) → On P ⊆ On Q → Held f K P ⊆ Held f K Q
more-pairs f K P Q p x y h = (h.0, within h.0 x y h.1)
  where
    within : (k : ℕ) → Chains f K P k ⊆ Chains f K Q k
    within zero x y c = absurd c
    within (suc k) x y c = chain-mono (λ x y s. (s.0, gives-mono f K P Q p (within k) s.1)) x y c

module _ (f : Frame) (K P : Table) where
  pub step-mono : {A B : Rel} → A ⊆ B → Step f K P A ⊆ Step f K P B
  step-mono h x y s = (s.0, gives-mono f K P P (λ x y k. k) h s.1)

  pub chains-grow : (k : ℕ) → Chains f K P k ⊆ Chains f K P (suc k)
  chains-grow zero x y h = absurd h
  chains-grow (suc k) x y h = chain-mono (step-mono (chains-grow k)) x y h

  pub chains-later : (k m : ℕ) → k ≤ m → Chains f K P k ⊆ Chains f K P m
  chains-later k m l x y h = subst (λ (j : ℕ). Chains f K P j x y) (sub-add_cancel l) (after (m - k))
    where
      after : (d : ℕ) → Chains f K P (d + k) x y
      after zero = subst (λ (j : ℕ). Chains f K P j x y) (sym (zero-add k)) h
      after (suc d) = subst (λ (j : ℕ). Chains f K P j x y) (sym (suc-add d k)) (chains-grow (d + k) x y (after d))

  pub edge-grow : (k : ℕ) → Edge f K P k ⊆ Edge f K P (suc k)
  edge-grow k = step-mono (chains-grow k)

  pub edge-later : (k m : ℕ) → k ≤ m → Edge f K P k ⊆ Edge f K P m
  edge-later k m l = step-mono (chains-later k m l)

  pub last-held : (k : ℕ) → Last f K P k → Held f K P ⊆ Chains f K P (suc k)
  unfolding Last
  last-held k l x y h = within h.0 x y h.1
    where
      within : (m : ℕ) → Chains f K P m ⊆ Chain (Edge f K P k)
      within zero x y h = absurd h
      within (suc m) x y h = chain-mono (λ x y e. l x y (step-mono (within m) x y e)) x y h

  pub held-join : Transitive (Held f K P)
  unfolding Transitive
  held-join x y z (k, a) (m, b) = (suc (m + k), chain-join (chains-later k (suc (m + k)) (omega arith) x y a) (chains-later m (suc (m + k)) (omega arith) y z b))

  pub held-closed : Step f K P (Held f K P) ⊆ Held f K P
  held-closed x y (r, g) = go g
    where
      go : {r : ℕ} → Gives f K P (Held f K P) x y r → Held f K P x y
      go (rule1 k) = (1, one (1, rule1 k))
      go (rule2 s n) = (1, one (2, rule2 s n))
      go (rule3 L s w d o) = (1, one (3, rule3 L s w d o))
      go (rule4 s) = (1, one (4, rule4 s))
      go (rule5 s o) = (1, one (5, rule5 s o))
      go (rule6 L s w d c) = (suc c.0, one (6, rule6 L s w d c.1))
      go (rule7 S s w d c) = (suc c.0, one (7, rule7 S s w d c.1))
      go (rule8 k) = (1, one (8, rule8 k))

  pub held-least : (R : Rel) → Transitive R → Step f K P R ⊆ R → Held f K P ⊆ R
  held-least R t c x y h = within h.0 x y h.1
    where
      within : (m : ℕ) → Chains f K P m ⊆ R
      within zero x y h = absurd h
      within (suc m) x y h = chain-least t (λ x y e. c x y (step-mono (within m) x y e)) x y h

  -- only rules 6 and 7 look at chains
  gives-cases : {C : Rel} (D : Rel) {x y r : ℕ} → Gives f K P C x y r → Gives f K P D x y r ⊎ ((r ≡ 6) ⊎ (r ≡ 7))
  gives-cases D (rule1 k) = inl (rule1 k)
  gives-cases D (rule2 s n) = inl (rule2 s n)
  gives-cases D (rule3 L s w d o) = inl (rule3 L s w d o)
  gives-cases D (rule4 s) = inl (rule4 s)
  gives-cases D (rule5 s o) = inl (rule5 s o)
  gives-cases D (rule6 L s w d c) = inr (inl refl)
  gives-cases D (rule7 S s w d c) = inr (inr refl)
  gives-cases D (rule8 k) = inl (rule8 k)

  -- whatever the chains C are
  pub edge-first : (C : Rel) (x y : ℕ) → Edge f K P 0 x y ↔ ((r : ℕ) × Gives f K P C x y r × (r ≢ 6) × (r ≢ 7))
  edge-first C x y = (λ e. there e.1, λ e. back e.1 e.2 e.3)
    where
      there : {r : ℕ} → Gives f K P (Chains f K P 0) x y r → (r : ℕ) × Gives f K P C x y r × (r ≢ 6) × (r ≢ 7)
      there (rule1 k) = (1, rule1 k, omega arith, omega arith)
      there (rule2 s n) = (2, rule2 s n, omega arith, omega arith)
      there (rule3 L s w d o) = (3, rule3 L s w d o, omega arith, omega arith)
      there (rule4 s) = (4, rule4 s, omega arith, omega arith)
      there (rule5 s o) = (5, rule5 s o, omega arith, omega arith)
      there (rule6 L s w d c) = absurd c
      there (rule7 S s w d c) = absurd c
      there (rule8 k) = (8, rule8 k, omega arith, omega arith)

      back : {r : ℕ} → Gives f K P C x y r → r ≢ 6 → r ≢ 7 → Edge f K P 0 x y
      back a n₆ n₇ = elim (gives-cases (Chains f K P 0) a) [ inl b ↦ (_, b) | inr b ↦ elim b [ inl q ↦ absurd (n₆ q) | inr q ↦ absurd (n₇ q) ] ]

  pub edge-next : (k x y : ℕ) → Edge f K P (suc k) x y ↔ (Edge f K P k x y ⊎ (Gives f K P (Chains f K P (suc k)) x y 6 ⊎ Gives f K P (Chains f K P (suc k)) x y 7))
  edge-next k x y = (λ e. there e.1, back)
    where
      there : {r : ℕ} → Gives f K P (Chains f K P (suc k)) x y r → Edge f K P k x y ⊎ (Gives f K P (Chains f K P (suc k)) x y 6 ⊎ Gives f K P (Chains f K P (suc k)) x y 7)
      there a = elim (gives-cases (Chains f K P k) a) [
        | inl b ↦ inl (_, b)
        | inr b ↦ inr (elim b [ inl q ↦ inl (subst (Gives f K P (Chains f K P (suc k)) x y) q a) | inr q ↦ inr (subst (Gives f K P (Chains f K P (suc k)) x y) q a) ])
      ]

      back : Edge f K P k x y ⊎ (Gives f K P (Chains f K P (suc k)) x y 6 ⊎ Gives f K P (Chains f K P (suc k)) x y 7) → Edge f K P (suc k) x y
      back (inl e) = edge-grow k x y e
      back (inr (inl a)) = (6, a)
      back (inr (inr a)) = (7, a)
