-- What is owed of anything that was cut down, and one look at each number does it.
--
--   down-stuck   == in the end nothing can go
--   down-fault   == the fault is still there
--   down-keeps   == whatever each removal keeps holds of what is left
--   down-one     == there is one result
--   removed-one  == a removal leaves one set
--   cut-removed  == the one that a test of what goes leaves
--   Dull A i     == none of the numbers below i can go
--   dull-still   == what could not go before cannot go now: a fault that more numbers do not heal
--   Looked A i B == B is what a look at each number below i leaves of A; from it the others lead to the result
--   looked-none, looked-gone, looked-kept, looked-all == no look yet; one more that takes its number, one that does not; after all of them
use mathlib.Core.Path.{◌≡◌, refl, subst, fun_ext}
use mathlib.Core.Logic.{◌↔◌, inl, inr}
use mathlib.Core.Bool.{So}
use mathlib.Core.Option.{Option, some}
use Prim.Native.Nat.{ℕ, suc, ◌≤◌, ◌<◌}
use native.Mathlib.Decide.{dec_lt}
use native.Mathlib.Omega.{arith}
use Rattle.laws.specs.Relation.{Rel, Table}
use Rattle.laws.proofs.Tests.{and-iff, not_iff, same-iff, test-one, last?}
use Rattle.laws.proofs.Lowest.{lowest-one}
use Rattle.parts.specs.Removal.{Set}
use Rattle.parts.specs.inner.RemovalTests.{cut_away}
use Rattle.parts.specs.CutDown.{Removed, Spare, CutDown, over, next}

module _ (G : Rel) where
  pub removed-one : (A : Set) (i : ℕ) (B C : Set) → Removed G A i B → Removed G A i C → B ≡ C
  removed-one A i B C p q = fun_ext (λ x. test-one (p x) (q x))

  pub cut-removed : (r : Table) → ((i x : ℕ) → So (r i x) ↔ G i x) → (A : Set) (i : ℕ) → Removed G A i (cut_away r A i)
  cut-removed r is A i x = and-iff same-iff (not_iff (is i x))

module _ (n : ℕ) (G : Rel) (Fault : Set → Type 0) where
  pub down-stuck : {A B : Set} → CutDown n G Fault A B → (i : ℕ) → Spare n G Fault B i → ⊥
  down-stuck (over h) = h
  down-stuck (next i s d) = down-stuck d

  pub down-keeps : (C : Set → Type 0) → ((A B : Set) (i : ℕ) → Removed G A i B → C A → C B) → {A B : Set} → CutDown n G Fault A B → C A → C B
  down-keeps C keeps (over h) c = c
  down-keeps C keeps {A = A} (next i s d) c = down-keeps C keeps d (keeps A s.0.left i s.0.removed c)

  pub down-fault : {A B : Set} → CutDown n G Fault A B → Fault A → Fault B
  down-fault (over h) f = f
  down-fault (next i s d) f = down-fault d s.0.fault

  pub down-one : {A B C : Set} → CutDown n G Fault A B → CutDown n G Fault A C → B ≡ C
  down-one (over h) (over k) = refl
  down-one (over h) (next i s d) = absurd (h i s.0)
  down-one (next i s d) (over k) = absurd (k i s.0)
  down-one {A = A} {C = C} (next i s d) (next j u e) = down-one d (subst (λ (B : Set). CutDown n G Fault B C) same e)
    where
      number : (o p : Option ℕ) → o ≡ p → (a b : ℕ) → o ≡ some a → p ≡ some b → a ≡ b
      number o p q a b x y = cc

      at : j ≡ i
      at = number (some j) (some i) (lowest-one (Spare n G Fault A) (some j) (some i) u s) j i refl refl

      same : u.0.left ≡ s.0.left
      same = removed-one G A i u.0.left s.0.left (subst (λ (k : ℕ). Removed G A k u.0.left) at u.0.removed) s.0.removed

  abbrev pub Dull : Set → ℕ → Type 0
  Dull A i = (j : ℕ) → j < i → Spare n G Fault A j → ⊥

  -- over any fault that more numbers do not heal, of sets that have C
  module _ (r : Table) (is : (i x : ℕ) → So (r i x) ↔ G i x) (self : (i : ℕ) → G i i) (C : Set → Type 0) (keeps : (A B : Set) (i : ℕ) → Removed G A i B → C A → C B)
      (mono : (A B : Set) → C A → C B → ((x : ℕ) → So (A x) → So (B x)) → Fault A → Fault B) where
    pub dull-still : (A : Set) (i : ℕ) → C A → (s : Spare n G Fault A i) → Dull A i → Dull s.left (suc i)
    dull-still A i c s d j l u = elim (last? l) [
      | inl e ↦ ((s.removed j).0 u.there).1 (subst (λ (k : ℕ). G k j) e (self j))
      | inr h ↦ d j h (record {
        below = u.below;
        there = ((s.removed j).0 u.there).0;
        left = cut_away r A j;
        removed = cut-removed G r is A j;
        fault = mono u.left (cut_away r A j) (keeps s.left u.left j u.removed (keeps A s.left i s.removed c)) (keeps A (cut_away r A j) j (cut-removed G r is A j) c)
            (λ x t. let p = (u.removed x).0 t in (cut-removed G r is A j x).1 (((s.removed x).0 p.0).0, p.1)) u.fault;
      })
    ]

    pub record Looked (A : Set) (i : ℕ) (B : Set) : Type 0 where
      pub kept : C B
      pub dull : Dull B i
      pub rest : (D : Set) → CutDown n G Fault B D → CutDown n G Fault A D

    pub looked-none : (A : Set) → C A → Looked A 0 A
    looked-none A c = record { kept = c; dull = λ j l. absurd (omega arith); rest = λ D d. d }

    pub looked-gone : (A B : Set) (i : ℕ) → Looked A i B → (s : Spare n G Fault B i) → Looked A (suc i) s.left
    looked-gone A B i p s = record {
      kept = keeps B s.left i s.removed p.kept;
      dull = dull-still B i p.kept s p.dull;
      rest = λ D d. p.rest D (next i (s, λ j u. elim (dec_lt j i) [ yes l ↦ absurd (p.dull j l u) | no l ↦ omega arith ]) d);
    }

    pub looked-kept : (A B : Set) (i : ℕ) → Looked A i B → (Spare n G Fault B i → ⊥) → Looked A (suc i) B
    looked-kept A B i p s = record {
      kept = p.kept;
      dull = λ j l u. elim (last? l) [ inl e ↦ s (subst (Spare n G Fault B) e u) | inr h ↦ p.dull j h u ];
      rest = p.rest;
    }

    pub looked-all : (A B : Set) (i : ℕ) → n ≤ i → Looked A i B → CutDown n G Fault A B
    looked-all A B i h p = p.rest B (over (λ j u. p.dull j (omega (arith, u.below)) u))
