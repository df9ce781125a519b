-- The circle shown for a trace, and its rules: there is one such answer, and it is computed.
--
--   rule-one, ruled-one            == an edge has one lowest rule, a circle one list of them
--   shown-circle-one, circled-one  == one circle with its rules is shown
--   rounds-none                    == where a round has no circle, no round before it has one
--   rule-computed, ruled-computed  == `rule?` and `rules_of` are the lowest rules
--   circled-computed, circled-only == `circled?` is the answer
--   shown-circle-chain             == a circle is shown exactly where a chain of some round leads from an operation to itself
use mathlib.Core.Path.{◌≡◌, refl, sym, ap, ◌∙◌, subst}
use mathlib.Core.Logic.{◌⊎◌, inl, inr, ◌↔◌}
use mathlib.Core.Bool.{Bool, true, false, So, false≢true}
use mathlib.Core.List.{List, [], ◌∷◌}
use mathlib.Core.Option.{Option, none, some, some-injective}
use Prim.Native.Nat.{ℕ, zero, suc, ◌+◌, ◌*◌, ◌≤◌, ◌<◌}
use native.Mathlib.Nat.{not-suc-le-zero}
use native.Mathlib.Omega.{arith}
use lib.ListN.{length, get_or}
use lib.Seq.{ext_get_or}
use Rattle.laws.specs.Tests.{◌⇒◌, all, any}
use Rattle.laws.specs.Relation.{Table}
use Rattle.laws.specs.Warshall.{memo, chains}
use Rattle.laws.specs.Lowest.{Lowest, lowest}
use Rattle.laws.proofs.Tests.{all-iff, any-iff, imp-iff, three, last?}
use Rattle.laws.proofs.Relation.{chain-mono}
use Rattle.laws.proofs.Warshall.{memo-iff, chains-iff as warshall}
use Rattle.laws.proofs.Lowest.{lowest-one, lowest-iff}
use Rattle.rules.specs.Frame.{Frame, Good}
use Rattle.rules.specs.Rules.{Gives, Chains, Edge, Last, Contradicted, nothing, InRecords}
use Rattle.rules.specs.RuleTests.{gives?}
use Rattle.rules.specs.ComputedRounds.{step?}
use Rattle.rules.specs.Circle.{Circle, Shown, after}
use Rattle.rules.specs.ComputedWalks.{shown?}
use Rattle.rules.specs.ShownCircle.{LowestRule, Ruled, ShownCircle, Circled, rule?}
use Rattle.rules.specs.inner.ComputedCircle.{rules_of, rounds, circled?}
use Rattle.rules.proofs.Rounds.{edge-later}
use Rattle.rules.proofs.Ends.{step-within, chains-within}
use Rattle.rules.proofs.RuleTests.{gives-small, gives-iff, step-iff, last-round}
use Rattle.rules.proofs.Circle.{shown-one, circle-chain, circle-none, circle-iff}
use Rattle.rules.proofs.Closing.{last-by, last-clear}
use Rattle.rules.proofs.Shown.{shown-computed}

pub rule-one : (f : Frame) (K P : Table) (k x y r q : ℕ) → LowestRule f K P k x y r → LowestRule f K P k x y q → r ≡ q
rule-one f K P k x y r q a b = some-injective r q (lowest-one (Gives f K P (Chains f K P k) x y) (some r) (some q) a b)

pub ruled-one : (f : Frame) (K P : Table) (k : ℕ) (c rs qs : List ℕ) → Ruled f K P k c rs → Ruled f K P k c qs → rs ≡ qs
ruled-one f K P k c rs qs a b =
    ext_get_or 0 rs qs (a.long ∙ sym b.long) (λ i l. rule-one f K P k (get_or c i 0) (after c i) (get_or rs i 0) (get_or qs i 0) (a.lowest i (omega (arith, a.long))) (b.lowest i (omega (arith, a.long))))

module _ (f : Frame) (K : Table) where
  same-round : (k : ℕ) (c rs d qs : List ℕ) → ShownCircle f K k c rs → ShownCircle f K k d qs → (c ≡ d) × (rs ≡ qs)
  same-round k c rs d qs a b =
      let e : c ≡ d = some-injective c d (shown-one (Edge f K nothing k) (some c) (some d) a.shown b.shown) in
      (e, ruled-one f K nothing k d rs qs (subst (λ (c : List ℕ). Ruled f K nothing k c rs) e a.rules) b.rules)

  pub shown-circle-one : (k : ℕ) (c rs : List ℕ) (m : ℕ) (d qs : List ℕ) → ShownCircle f K k c rs → ShownCircle f K m d qs → (k ≡ m) × (c ≡ d) × (rs ≡ qs)
  shown-circle-one k c rs m d qs a b = go (three k m)
    where
      go : (k < m) ⊎ ((k ≡ m) ⊎ (m < k)) → (k ≡ m) × (c ≡ d) × (rs ≡ qs)
      go (inl l) = absurd (b.earlier k l c a.shown.0)
      go (inr (inl e)) = let s = same-round m c rs d qs (subst (λ (k : ℕ). ShownCircle f K k c rs) e a) b in (e, s.0, s.1)
      go (inr (inr l)) = absurd (a.earlier m l d b.shown.0)

  pub circled-one : (a b : Option (List ℕ × List ℕ)) → Circled f K a → Circled f K b → a ≡ b
  circled-one none none h k = refl
  circled-one none (some d) h (m, b) = absurd (h m d.0 b.shown.0)
  circled-one (some c) none (k, a) h = absurd (h k c.0 a.shown.0)
  circled-one (some c) (some d) (k, a) (m, b) = let s = shown-circle-one k c.0 c.1 m d.0 d.1 a b in λ i. some (s.1 i, s.2 i)

  pub rounds-none : (j k : ℕ) → j ≤ k → Shown (Edge f K nothing k) none → Shown (Edge f K nothing j) none
  rounds-none j k l s = (circle-none (Edge f K nothing j)).1 (λ x c. (circle-none (Edge f K nothing k)).0 s x (chain-mono (edge-later f K nothing j k l) x x c))

module _ (f : Frame) (g : Good f) (K P C : Table) (k : ℕ) (q : (x y : ℕ) → So (C x y) ↔ Chains f K P k x y) where
  pub rule-computed : (x y : ℕ) → Edge f K P k x y → LowestRule f K P k x y (rule? f K P C x y)
  unfolding rule?
  rule-computed x y e = go (lowest (gives? f K P C x y) 9 0) found
    where
      found : Lowest (Gives f K P (Chains f K P k) x y) (lowest (gives? f K P C x y) 9 0)
      found = lowest-iff _ (Gives f K P (Chains f K P k) x y) 9 (λ r _. gives-iff f g K P C (Chains f K P k) q x y r) (λ r. gives-small) 9 0 (omega arith) (λ r _. omega arith)

      go : (o : Option ℕ) → Lowest (Gives f K P (Chains f K P k) x y) o → LowestRule f K P k x y (elim o [ some r ↦ r | none ↦ 0 ])
      go (some r) l = l
      go none l = absurd (l e.0 e.1)

  pub ruled-computed : (c : List ℕ) → Circle (Edge f K P k) c → Ruled f K P k c (rules_of f K P C (get_or c 0 0) c)
  unfolding rules_of
  ruled-computed c h = record {
    long = long (get_or c 0 0) c;
    lowest = λ i l. rw (at (get_or c 0 0) c i l) (rule-computed (get_or c i 0) (after c i) (((circle-iff (Edge f K P k) c).0 h).1 i l));
  }
    where
      long : (z : ℕ) (xs : List ℕ) → length (rules_of f K P C z xs) ≡ length xs
      long z [] = refl
      long z (x ∷ xs) = ap suc (long z xs)

      at : (z : ℕ) (xs : List ℕ) (i : ℕ) → i < length xs → get_or (rules_of f K P C z xs) i 0 ≡ rule? f K P C (get_or xs i 0) (get_or xs (suc i) z)
      at z [] i l = absurd (not-suc-le-zero l)
      at z (x ∷ xs) zero l = refl
      at z (x ∷ xs) (suc i) l = at z xs i (omega arith)

module _ (f : Frame) (g : Good f) (K : Table) (w : InRecords f K) where
  nothing-within : InRecords f nothing
  nothing-within x y t = absurd (false≢true t)

  -- From round k on: no round before it has a circle or is the last
  rounds-circled : (d k : ℕ) (C : Table) → d + k ≡ suc (f.records * f.records) → ((x y : ℕ) → So (C x y) ↔ Chains f K nothing k x y)
      → ((j : ℕ) → j < k → Shown (Edge f K nothing j) none) → ((j : ℕ) → j < k → Last f K nothing j → ⊥) → Circled f K (rounds f K d C)
  unfolding rounds Last
  rounds-circled zero k C e q s l = let r = last-round f g K nothing w nothing-within in absurd (l r.0 (omega arith) r.2)
  rounds-circled (suc d) k C e q s l = go (any f.records (λ x. D x x)) refl (λ a b. rounds-circled d (suc k) D (omega arith) next a b)
    where
      E : Table
      E = memo f.records (step? f K nothing C)

      edges : (x y : ℕ) → So (E x y) ↔ Edge f K nothing k x y
      edges = memo-iff f.records _ (Edge f K nothing k) (step-within f g K nothing w nothing-within (Chains f K nothing k)) (λ x y _ _. step-iff f g K nothing C (Chains f K nothing k) q x y)

      D : Table
      D = chains f.records E

      next : (x y : ℕ) → So (D x y) ↔ Chains f K nothing (suc k) x y
      next = warshall (Edge f K nothing k) f.records E (step-within f g K nothing w nothing-within (Chains f K nothing k)) (λ x y _ _. edges x y)

      closed : So (any f.records (λ x. D x x)) ↔ ((x : ℕ) × (x < f.records) × Chains f K nothing (suc k) x x)
      closed = any-iff (λ x. next x x)

      go : (b : Bool) → any f.records (λ x. D x x) ≡ b
          → (((j : ℕ) → j < suc k → Shown (Edge f K nothing j) none) → ((j : ℕ) → j < suc k → Last f K nothing j → ⊥) → Circled f K (rounds f K d D))
          → Circled f K (elim b [
            | true ↦ elim (shown? f.records E) [ some c ↦ some (c, rules_of f K nothing C (get_or c 0 0) c) | none ↦ none ]
            | false ↦ elim (all f.records (λ x. all f.records (λ y. step? f K nothing D x y ⇒ E x y))) [ true ↦ none | false ↦ rounds f K d D ]
          ])
      go true t r = show (shown? f.records E) (shown-computed (Edge f K nothing k) f.records (step-within f g K nothing w nothing-within (Chains f K nothing k)) E edges)
        where
          show : (o : Option (List ℕ)) → Shown (Edge f K nothing k) o → Circled f K (elim o [ some c ↦ some (c, rules_of f K nothing C (get_or c 0 0) c) | none ↦ none ])
          show (some c) h = (k, record { earlier = s; shown = h; rules = ruled-computed f g K nothing C k q c h.0 })
          show none h = let (x, _, c) = closed.0 t in absurd ((circle-none (Edge f K nothing k)).0 h x c)
      go false t r = end (all f.records (λ x. all f.records (λ y. step? f K nothing D x y ⇒ E x y))) refl
        where
          clear : (x : ℕ) → Chains f K nothing (suc k) x x → ⊥
          clear x c = false≢true (sym t ∙ closed.1 (x, (chains-within f g K nothing w nothing-within (suc k) x x c).0, c))

          still : So (all f.records (λ x. all f.records (λ y. step? f K nothing D x y ⇒ E x y)))
              ↔ ((x : ℕ) → x < f.records → (y : ℕ) → y < f.records → So (step? f K nothing D x y) → Edge f K nothing k x y)
          still = all-iff (λ x. all-iff (λ y. imp-iff (edges x y)))

          more_edges : (x y : ℕ) → So (step? f K nothing D x y) ↔ Edge f K nothing (suc k) x y
          more_edges x y = step-iff f g K nothing D (Chains f K nothing (suc k)) next x y

          end : (b : Bool) → all f.records (λ x. all f.records (λ y. step? f K nothing D x y ⇒ E x y)) ≡ b → Circled f K (elim b [ true ↦ none | false ↦ rounds f K d D ])
          end true u = λ m.
              let last : Last f K nothing k = last-by f K nothing g w nothing-within k (λ x y a b h. still.0 u x a y b ((more_edges x y).1 h)) in
              (circle-none (Edge f K nothing m)).1 (λ x c. last-clear f K nothing k last clear (x, (suc m, c)))
          end false u = r
              (λ j b. elim (last? b) [ inl z ↦ subst (λ (j : ℕ). Shown (Edge f K nothing j) none) (sym z) ((circle-none (Edge f K nothing k)).1 clear) | inr i ↦ s j i ])
              (λ j b a. elim (last? b) [ inl z ↦ false≢true (sym u ∙ still.1 (λ x _ y _ h. ends z a x y ((more_edges x y).0 h))) | inr i ↦ l j i a ])
            where
              ends : {j : ℕ} → j ≡ k → Last f K nothing j → (x y : ℕ) → Edge f K nothing (suc k) x y → Edge f K nothing k x y
              ends {j} z a = subst (Last f K nothing) z a

  pub circled-computed : Circled f K (circled? f K)
  unfolding circled?
  circled-computed = rounds-circled (suc (f.records * f.records)) 0 nothing (omega arith) (λ x y. (λ t. absurd (false≢true t), λ t. absurd t))
      (λ j b. absurd (not-suc-le-zero b)) (λ j b. absurd (not-suc-le-zero b))

  pub circled-only : (a : Option (List ℕ × List ℕ)) → Circled f K a ↔ (a ≡ circled? f K)
  circled-only a = (λ h. circled-one f K a (circled? f K) h circled-computed, λ e. subst (Circled f K) (sym e) circled-computed)

  pub shown-circle-chain : ((k : ℕ) × (c : List ℕ) × (rs : List ℕ) × ShownCircle f K k c rs) ↔ Contradicted f K nothing
  shown-circle-chain = (there, λ c. back (circled? f K) circled-computed c)
    where
      there : ((k : ℕ) × (c : List ℕ) × (rs : List ℕ) × ShownCircle f K k c rs) → Contradicted f K nothing
      there (k, c, rs, s) = let (x, h) = (circle-chain (Edge f K nothing k)).0 (c, s.shown.0) in (x, (suc k, h))

      back : (o : Option (List ℕ × List ℕ)) → Circled f K o → Contradicted f K nothing → (k : ℕ) × (c : List ℕ) × (rs : List ℕ) × ShownCircle f K k c rs
      back (some c) h _ = (h.0, c.0, c.1, h.1)
      back none h (x, (zero, c)) = absurd c
      back none h (x, (suc k, c)) = absurd ((circle-none (Edge f K nothing k)).0 (h k) x c)
