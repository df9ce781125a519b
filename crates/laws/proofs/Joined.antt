-- One pair added to a closed relation leaves it closed.
--
--   joined-has, joined_keeps        == the pair is in, and what was in stays
--   joined-join, joined-chain       == the joined relation is transitive: it is the chains of the relation and the pair
--   joined-least                    == it lies in any transitive relation that has the relation and the pair
--   joined_same                     == a pair that was in adds nothing
--   joined-circle                   == it has a circle where the relation had one, or where the pair closes one
--   joined-clear                    == so it has none where neither is so
--   joined-turned                   == the other way round it is the turned relation with the turned pair: two tables stay each other's turn
--   joined-more                     == a table that a new pair was added to has more pairs
--   split-join, split-circle        == what is closed downwards put before what is closed upwards leaves the relation closed, with no new circle
use mathlib.Core.Path.{◌≡◌, refl, sym, ◌∙◌, subst}
use mathlib.Core.Logic.{◌⊎◌, inl, inr, ◌↔◌}
use mathlib.Core.Bool.{So}
use Prim.Native.Nat.{ℕ, ◌<◌}
use Rattle.laws.specs.Relation.{Rel, Table, ◌⊆◌, Transitive, Chain, one, more}
use Rattle.laws.specs.inner.Sorted.{On}
use Rattle.laws.proofs.GrowingTables.{pairs}
use Rattle.laws.specs.inner.Joined.{Upto, From, Span, Plus, Joined, SelfLed, Turned}
use Rattle.laws.proofs.Relation.{chain-least}
use Rattle.laws.proofs.Growth.{pairs-more}

module _ (C : Rel) (a b : ℕ) where
  pub joined-has : Joined C a b a b
  joined-has = inr (inl refl, inl refl)

  pub joined_keeps : C ⊆ Joined C a b
  joined_keeps x y c = inl c

  pub joined-turned : (x y : ℕ) → Joined (Turned C) b a y x ↔ Joined C a b x y
  joined-turned x y = (there, back)
    where
      there : Joined (Turned C) b a y x → Joined C a b x y
      there (inl c) = inl c
      there (inr u) = inr (u.1, u.0)

      back : Joined C a b x y → Joined (Turned C) b a y x
      back (inl c) = inl c
      back (inr u) = inr (u.1, u.0)

  pub joined-least : (R : Rel) → Transitive R → C ⊆ R → R a b → Joined C a b ⊆ R
  unfolding Transitive
  joined-least R t h r x y (inl c) = h x y c
  joined-least R t h r x y (inr u) = lead u.0 (tail u.1)
    where
      tail : From C b y → R a y
      tail (inl q) = subst (R a) (sym q) r
      tail (inr c) = t a b y r (h b y c)

      lead : Upto C a x → R a y → R x y
      lead (inl q) s = subst (λ (x : ℕ). R x y) (sym q) s
      lead (inr c) s = t x a y (h x a c) s

  module _ (t : Transitive C) where
    pub joined_same : C a b → Joined C a b ⊆ C
    joined_same c = joined-least C t (λ x y d. d) c

    -- a step of C into what leads to a, and one out of what b leads to
    into : (x y : ℕ) → C x y → Upto C a y → C x a
    unfolding Transitive
    into x y c (inl q) = subst (C x) q c
    into x y c (inr d) = t x y a c d

    out : (y z : ℕ) → From C b y → C y z → C b z
    unfolding Transitive
    out y z (inl q) d = subst (λ (y : ℕ). C y z) q d
    out y z (inr c) d = t b y z c d

    pub joined-join : Transitive (Joined C a b)
    unfolding Transitive
    joined-join x y z (inl c) (inl d) = inl (t x y z c d)
    joined-join x y z (inl c) (inr u) = inr (inr (into x y c u.0), u.1)
    joined-join x y z (inr u) (inl d) = inr (u.0, inr (out y z u.1 d))
    joined-join x y z (inr u) (inr v) = inr (u.0, v.1)

    pub joined-chain : (x y : ℕ) → Joined C a b x y ↔ Chain (Plus C a b) x y
    joined-chain x y = (there, λ c. chain-least joined-join edge x y c)
      where
        edge : Plus C a b ⊆ Joined C a b
        edge x y (inl c) = inl c
        edge x y (inr q) = inr (inl q.0, inl q.1)

        tail : From C b y → Chain (Plus C a b) a y
        tail (inl q) = one (inr (refl, q))
        tail (inr c) = more (inr (refl, refl)) (one (inl c))

        lead : Upto C a x → Chain (Plus C a b) a y → Chain (Plus C a b) x y
        lead (inl q) k = subst (λ (x : ℕ). Chain (Plus C a b) x y) (sym q) k
        lead (inr c) k = more (inl c) k

        there : Joined C a b x y → Chain (Plus C a b) x y
        there (inl c) = one (inl c)
        there (inr u) = lead u.0 (tail u.1)

    pub joined-circle : SelfLed (Joined C a b) ↔ (SelfLed C ⊎ ((a ≡ b) ⊎ C b a))
    joined-circle = (λ c. there c.0 c.1, back)
      where
        closes : (x : ℕ) → Upto C a x → From C b x → (a ≡ b) ⊎ C b a
        closes x (inl p) (inl q) = inl (sym p ∙ q)
        closes x (inl p) (inr d) = inr (subst (C b) p d)
        closes x (inr c) d = inr (out x a d c)

        there : (x : ℕ) → Joined C a b x x → SelfLed C ⊎ ((a ≡ b) ⊎ C b a)
        there x (inl c) = inl (x, c)
        there x (inr u) = inr (closes x u.0 u.1)

        back : SelfLed C ⊎ ((a ≡ b) ⊎ C b a) → SelfLed (Joined C a b)
        back (inl c) = (c.0, inl c.1)
        back (inr (inl q)) = (a, inr (inl refl, inl q))
        back (inr (inr c)) = (a, inr (inl refl, inr c))

    pub joined-clear : (SelfLed C → ⊥) → (a ≡ b → ⊥) → (C b a → ⊥) → SelfLed (Joined C a b) → ⊥
    joined-clear n d e c = elim (joined-circle.0 c) [ inl u ↦ n u | inr u ↦ elim u [ inl q ↦ d q | inr v ↦ e v ] ]

-- what a loop that adds pairs counts down by
pub joined-more : (n : ℕ) (s t : Table) (a b : ℕ) → a < n → b < n → ((x y : ℕ) → So (t x y) ↔ Joined (On s) a b x y) → (So (s a b) → ⊥) → pairs n s < pairs n t
joined-more n s t a b la lb q new = pairs-more n s t (λ x y u. (q x y).1 (inl u)) a b la lb ((q a b).1 (joined-has (On s) a b)) new

-- A goes before B: A closed downwards, B closed upwards, nothing in both
module _ (C : Rel) (A B : ℕ → Type 0) (t : Transitive C) (down : (x y : ℕ) → C x y → A y → A x) (up : (x y : ℕ) → C x y → B x → B y) (apart : (x : ℕ) → A x → B x → ⊥) where
  abbrev pub Split : Rel
  Split x y = C x y ⊎ (A x × B y)

  pub split-join : Transitive Split
  unfolding Transitive
  split-join x y z (inl c) (inl d) = inl (t x y z c d)
  split-join x y z (inl c) (inr u) = inr (down x y c u.0, u.1)
  split-join x y z (inr u) (inl d) = inr (u.0, up y z d u.1)
  split-join x y z (inr u) (inr v) = absurd (apart y v.0 u.1)

  pub split-circle : SelfLed Split → SelfLed C
  split-circle c = go c.0 c.1
    where
      go : (x : ℕ) → Split x x → SelfLed C
      go x (inl d) = (x, d)
      go x (inr u) = absurd (apart x u.0 u.1)
