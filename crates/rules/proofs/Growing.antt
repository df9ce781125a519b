-- What is held, found by adding forced pairs one after the other to a relation that stays closed: the order of adding is free.
--
--   step-held, settled-held                  == what the rules give from forced pairs is forced; the same for one load, by rules 6 and 7
--   settled-loads, settled-below             == rules 6 and 7 give nothing more when they do so for no load; only loads of the trace count
--   begun-by                                 == round 0 is in where pairs that lead to all of it are
--   complete-closed, complete-held           == a complete relation is closed under the rules, and so has all that is held
--   complete-is, complete-circle             == with forced pairs only it is what is held, and its circles tell whether it is contradicted
--   closing-complete                         == so it answers
--   growing-none, growing-chain, growing-more == to begin with: nothing; the chains of forced pairs; what fewer supposed pairs gave
--   growing-one, growing-closes              == one forced pair is added; where it closes a circle, it is contradicted
--   growing-same                             == the same relation, said otherwise
--   growing-circle                           == a circle on the way is a contradiction
--   growing-end, growing-stop                == at the end the closing is answered: complete without a circle, or stopped by one
--   grown-none, grown-one, grown-old         == no pair; one; one that was in
--   grown-then, grown-less                   == first some and then others; fewer
--   reaches-one, reaches-none, reaches_then  == the same where a circle stops the adding
--   reaches-stop                             == once stopped, stopped
use mathlib.Core.Path.{◌≡◌, refl, sym, subst}
use mathlib.Core.Logic.{◌≢◌, ◌⊎◌, inl, inr, ◌↔◌}
use mathlib.Core.Bool.{Bool, true, false, So, false≢true}
use Prim.Native.Nat.{ℕ, ◌<◌}
use Rattle.laws.specs.Relation.{Rel, Table, ◌⊆◌, Transitive, Chain}
use Rattle.laws.specs.inner.Sorted.{On}
use Rattle.laws.specs.inner.Joined.{Joined, SelfLed}
use Rattle.laws.proofs.Tests.{eq?}
use Rattle.laws.proofs.Relation.{chain-join, chain-least}
use Rattle.laws.proofs.Joined.{joined_keeps, joined-least, joined-join, joined-clear}
use Rattle.rules.specs.Frame.{Frame, Good, Writer, Source}
use Rattle.rules.specs.Rules.{Gives, rule6, rule7, Step, Edge, Held, Contradicted}
use Rattle.rules.specs.Closing.{Closing}
use Rattle.rules.specs.inner.Growing.{SettledAt, Complete, Growing, GrownTo, GrownOrStopped}
use Rattle.rules.proofs.Rounds.{more-pairs, step-mono, held-join, held-closed, held-least, edge-first}

module _ (f : Frame) (K P : Table) where
  -- each addition is forced, however old the relation is that it was found in: Held does not change
  pub step-held : (C : Rel) → C ⊆ Held f K P → Step f K P C ⊆ Held f K P
  step-held C h x y s = held-closed f K P x y (step-mono f K P h x y s)

  pub settled-held : (C : Rel) → C ⊆ Held f K P → (S L z : ℕ) → Source f S L → Writer f z L → z ≢ S → (C z L → Held f K P z S) × (C S z → Held f K P L z)
  settled-held C h S L z s w d = (λ c. step-held C h z S (6, rule6 L s w d c), λ c. step-held C h L z (7, rule7 S s w d c))

  pub settled-loads : (C : Rel) → ((L : ℕ) → SettledAt f C L) ↔ ((x y : ℕ) → Gives f K P C x y 6 ⊎ Gives f K P C x y 7 → C x y)
  unfolding SettledAt
  settled-loads C = (there, λ h L S s z w d. (λ c. h z S (inl (rule6 L s w d c)), λ c. h L z (inr (rule7 S s w d c))))
    where
      there : ((L : ℕ) → SettledAt f C L) → (x y : ℕ) → Gives f K P C x y 6 ⊎ Gives f K P C x y 7 → C x y
      there h x y (inl (rule6 L s w d c)) = (h L y s x w d).0 c
      there h x y (inr (rule7 S s w d c)) = (h x S s y w d).1 c

  pub settled-below : Good f → (C : Rel) → ((L : ℕ) → L < f.records → SettledAt f C L) → (L : ℕ) → SettledAt f C L
  unfolding SettledAt
  settled-below g C h L S s z w d = h L (g.below L (g.reads L s.reads)) S s z w d

  pub begun-by : (C N : Rel) → Transitive C → Edge f K P 0 ⊆ Chain N → N ⊆ C → Edge f K P 0 ⊆ C
  begun-by C N t h n x y e = chain-least t n x y (h x y e)

  pub complete-closed : (C : Rel) → Complete f K P C → Step f K P C ⊆ C
  complete-closed C c x y (r, a) = elim (eq? r 6) [
    | inl q ↦ c.settled x y (inl (subst (Gives f K P C x y) q a))
    | inr n₆ ↦ elim (eq? r 7) [
      | inl q ↦ c.settled x y (inr (subst (Gives f K P C x y) q a))
      | inr n₇ ↦ c.begun x y ((edge-first f K P C x y).1 (r, a, n₆, n₇))
    ]
  ]

  pub complete-held : (C : Rel) → Transitive C → Complete f K P C → Held f K P ⊆ C
  complete-held C t c = held-least f K P C t (complete-closed C c)

  module _ (C : Rel) (t : Transitive C) (h : C ⊆ Held f K P) (c : Complete f K P C) where
    pub complete-is : (x y : ℕ) → C x y ↔ Held f K P x y
    complete-is x y = (h x y, complete-held C t c x y)

    pub complete-circle : SelfLed C ↔ Contradicted f K P
    complete-circle = (λ u. (u.0, h u.0 u.0 u.1), λ u. (u.0, complete-held C t c u.0 u.0 u.1))

    -- a loop that does not stop at a circle
    pub closing-complete : (bad : Bool) (table : Table) → So bad ↔ SelfLed C → ((x y : ℕ) → So (table x y) ↔ (C x y × (SelfLed C → ⊥))) → Closing f K P bad table
    closing-complete bad table b q = record {
      contradicted = (λ u. complete-circle.0 (b.0 u), λ u. b.1 (complete-circle.1 u));
      held = λ x y. (
        λ u. let r = (q x y).0 u in (h x y r.0, λ v. r.1 (complete-circle.1 v)),
        λ u. (q x y).1 (complete-held C t c x y u.0, λ v. u.1 (complete-circle.0 v)),
      );
    }

  -- begin
  pub growing-none : (C : Rel) → ((x y : ℕ) → C x y → ⊥) → Growing f K P C
  unfolding Transitive
  growing-none C n = record { joins = λ x y z c d. absurd (n x y c); forced = λ x y c. absurd (n x y c) }

  pub growing-chain : (C E : Rel) → E ⊆ Held f K P → ((x y : ℕ) → C x y ↔ Chain E x y) → Growing f K P C
  unfolding Transitive
  growing-chain C E h q = record {
    joins = λ x y z c d. (q x z).1 (chain-join ((q x y).0 c) ((q y z).0 d));
    forced = λ x y c. chain-least (held-join f K P) h x y ((q x y).0 c);
  }

  pub growing-same : (C D : Rel) → Growing f K P C → ((x y : ℕ) → D x y ↔ C x y) → Growing f K P D
  unfolding Transitive
  growing-same C D g q = record {
    joins = λ x y z c d. (q x z).1 (g.joins x y z ((q x y).0 c) ((q y z).0 d));
    forced = λ x y c. g.forced x y ((q x y).0 c);
  }

  -- add one
  module _ (C : Rel) (g : Growing f K P C) (a b : ℕ) (h : Held f K P a b) where
    pub growing-one : Growing f K P (Joined C a b)
    growing-one = record {
      joins = joined-join C a b g.joins;
      forced = joined-least C a b (Held f K P) (held-join f K P) g.forced h;
    }

    pub growing-closes : (a ≡ b) ⊎ C b a → Contradicted f K P
    unfolding Transitive
    growing-closes (inl q) = (b, subst (λ (x : ℕ). Held f K P x b) q h)
    growing-closes (inr c) = (a, held-join f K P a b a h (g.forced b a c))

  -- end
  pub growing-circle : (C : Rel) → Growing f K P C → SelfLed C → Contradicted f K P
  growing-circle C g c = (c.0, g.forced c.0 c.0 c.1)

  pub growing-end : (C : Rel) → Growing f K P C → Complete f K P C → (SelfLed C → ⊥) → (table : Table) → ((x y : ℕ) → So (table x y) ↔ C x y) → Closing f K P false table
  growing-end C g c n table q =
      closing-complete C g.joins g.forced c false table (λ u. absurd (false≢true u), λ u. absurd (n u)) (λ x y. (λ u. ((q x y).0 u, n), λ u. (q x y).1 u.0))

  pub growing-stop : Contradicted f K P → (table : Table) → ((x y : ℕ) → So (table x y) → ⊥) → Closing f K P true table
  growing-stop u table empty = record {
    contradicted = (λ _. u, λ _. refl);
    held = λ x y. (λ v. absurd (empty x y v), λ v. absurd (v.1 u));
  }

  -- loops that add
  pub grown-none : (C R : Rel) → Growing f K P C → ((x y : ℕ) → R x y → ⊥) → GrownTo f K P C R C
  grown-none C R g n = record { growing = g; keeps = λ x y c. c; has = λ x y r. absurd (n x y r) }

  pub grown-old : (C R : Rel) → Growing f K P C → R ⊆ C → GrownTo f K P C R C
  grown-old C R g h = record { growing = g; keeps = λ x y c. c; has = h }

  pub grown-one : (C D : Rel) (a b : ℕ) → Growing f K P C → Held f K P a b → ((x y : ℕ) → D x y ↔ Joined C a b x y) → GrownTo f K P C (λ x y. (x ≡ a) × (y ≡ b)) D
  grown-one C D a b g h q = record {
    growing = growing-same (Joined C a b) D (growing-one C g a b h) q;
    keeps = λ x y c. (q x y).1 (joined_keeps C a b x y c);
    has = λ x y r. (q x y).1 (inr (inl r.0, inl r.1));
  }

  pub grown-then : (C R D S E : Rel) → GrownTo f K P C R D → GrownTo f K P D S E → GrownTo f K P C (λ x y. R x y ⊎ S x y) E
  grown-then C R D S E p q = record {
    growing = q.growing;
    keeps = λ x y c. q.keeps x y (p.keeps x y c);
    has = λ x y u. elim u [ inl r ↦ q.keeps x y (p.has x y r) | inr s ↦ q.has x y s ];
  }

  pub grown-less : (C R Q D : Rel) → Q ⊆ R → GrownTo f K P C R D → GrownTo f K P C Q D
  grown-less C R Q D h p = record { growing = p.growing; keeps = p.keeps; has = λ x y u. p.has x y (h x y u) }

  pub reaches-none : (C R : Rel) → Growing f K P C → R ⊆ C → GrownOrStopped f K P C R C true
  reaches-none C R g h = record { grown = λ _. grown-old C R g h; clear = λ _ n. n; stopped = λ e. absurd (false≢true (sym e)) }

  pub reaches-one : (C D : Rel) (a b : ℕ) → Growing f K P C → Held f K P a b → (a ≡ b → ⊥) → (C b a → ⊥) → ((x y : ℕ) → D x y ↔ Joined C a b x y) → GrownOrStopped f K P C (λ x y. (x ≡ a) × (y ≡ b)) D true
  reaches-one C D a b g h d n q = record {
    grown = λ _. grown-one C D a b g h q;
    clear = λ _ m c. joined-clear C a b g.joins m d n (c.0, (q c.0 c.0).0 c.1);
    stopped = λ e. absurd (false≢true (sym e));
  }

  pub reaches-stop : (C R D : Rel) → Contradicted f K P → GrownOrStopped f K P C R D false
  reaches-stop C R D u = record { grown = λ e. absurd (false≢true e); clear = λ e. absurd (false≢true e); stopped = λ _. u }

  pub reaches_then : (C R D S E : Rel) (ok : Bool) → GrownOrStopped f K P C R D true → GrownOrStopped f K P D S E ok → GrownOrStopped f K P C (λ x y. R x y ⊎ S x y) E ok
  reaches_then C R D S E ok p q = record {
    grown = λ u. grown-then C R D S E (p.grown refl) (q.grown u);
    clear = λ u n. q.clear u (p.clear refl n);
    stopped = q.stopped;
  }

-- a session supposes one pair more: what was held before is where its closing begins
pub growing-more : (f : Frame) (K P Q : Table) (C : Rel) → On P ⊆ On Q → Growing f K P C → Growing f K Q C
growing-more f K P Q C p g = record { joins = g.joins; forced = λ x y c. more-pairs f K P Q p x y (g.forced x y c) }
