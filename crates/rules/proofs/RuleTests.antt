-- The tests of the rules say what the rules say.
--
--   writer-iff, source-iff, first-iff == the parts of a rule
--   gives-small                       == there are eight rules
--   gives-iff, step-iff               == from a table of chains whose meaning is known
--   chains-iff, edge-iff              == the chains and edges of each round
--   last-round                        == within n * n rounds one adds nothing
use mathlib.Core.Logic.{◌≢◌, ◌↔◌}
use mathlib.Core.Bool.{not, So, ◌&&◌, false≢true}
use Prim.Native.Nat.{ℕ, zero, suc, ◌*◌, ◌≤◌, ◌<◌}
use native.Mathlib.Omega.{arith}
use lib.Dec.{eqb}
use Rattle.laws.specs.Tests.{any}
use Rattle.laws.specs.Relation.{Rel, Table}
use Rattle.laws.proofs.GrowingTables.{Still}
use Rattle.laws.proofs.Tests.{and-iff, not_iff, same-iff, any-iff, so-eq}
use Rattle.laws.proofs.Growth.{stops}
use Rattle.laws.proofs.Warshall.{chains-iff as warshall}
use Rattle.rules.specs.Frame.{Frame, Good, Writer, Source, First}
use Rattle.rules.specs.Rules.{Gives, rule1, rule2, rule3, rule4, rule5, rule6, rule7, rule8, Step, Chains, Edge, Last, InRecords}
use Rattle.rules.specs.RuleTests.{writer?, source?, first?, rules, gives?}
use Rattle.rules.specs.ComputedRounds.{step?, chains?, edge?}
use Rattle.rules.proofs.Rounds.{edge-grow}
use Rattle.rules.proofs.Ends.{step-within}

pub writer-iff : (f : Frame) (S L : ℕ) → So (writer? f S L) ↔ Writer f S L
unfolding writer?
writer-iff f S L =
    let i : So (f.writes S && eqb (f.address S) (f.address L) && not (eqb S L)) ↔ _ = and-iff (and-iff same-iff so-eq) (not_iff so-eq) in
    (λ t. let r = i.0 t in record { writes = r.0.0; same = r.0.1; other = r.1 }, λ w. i.1 ((w.writes, w.same), w.other))

pub source-iff : (f : Frame) (S L : ℕ) → So (source? f S L) ↔ Source f S L
unfolding source?
source-iff f S L =
    let i : So (writer? f S L && f.reads L && eqb (f.read L) (f.written S) && not (eqb (f.read L) (f.first (f.address L)))) ↔ _
    = and-iff (and-iff (and-iff (writer-iff f S L) same-iff) so-eq) (not_iff so-eq) in
    (λ t. let r = i.0 t in record { writer = r.0.0.0; reads = r.0.0.1; value = r.0.1; later = r.1 }, λ s. i.1 (((s.writer, s.reads), s.value), s.later))

pub first-iff : (f : Frame) (S L : ℕ) → So (first? f S L) ↔ First f S L
unfolding first?
first-iff f S L =
    let i : So (writer? f S L && f.reads L && eqb (f.read L) (f.first (f.address L))) ↔ _ = and-iff (and-iff (writer-iff f S L) same-iff) so-eq in
    (λ t. let r = i.0 t in record { writer = r.0.0; reads = r.0.1; value = r.1 }, λ s. i.1 ((s.writer, s.reads), s.value))

pub gives-small : {f : Frame} {K P : Table} {C : Rel} {x y r : ℕ} → Gives f K P C x y r → r < 9
gives-small (rule1 k) = omega arith
gives-small (rule2 s n) = omega arith
gives-small (rule3 L s w d o) = omega arith
gives-small (rule4 s) = omega arith
gives-small (rule5 s o) = omega arith
gives-small (rule6 L s w d h) = omega arith
gives-small (rule7 S s w d h) = omega arith
gives-small (rule8 k) = omega arith

module _ (f : Frame) (g : Good f) where
  -- who writes or reads is a record of the trace
  writer-below : {S L : ℕ} → Writer f S L → S < f.records
  writer-below {S} w = g.below S (g.writes S w.writes)

  reader-below : {L : ℕ} → So (f.reads L) → L < f.records
  reader-below {L} t = g.below L (g.reads L t)

  module _ (K P C : Table) (D : Rel) (c : (x y : ℕ) → So (C x y) ↔ D x y) (x y : ℕ) where
    -- the parts of the rules that look for a third operation
    third₃ : So (any f.records (λ L. source? f y L && writer? f x L && not (eqb x y) && f.earlier x L))
        ↔ ((L : ℕ) × (L < f.records) × (((Source f y L × Writer f x L) × (x ≢ y)) × So (f.earlier x L)))
    third₃ = any-iff (λ L. and-iff (and-iff (and-iff (source-iff f y L) (writer-iff f x L)) (not_iff so-eq)) same-iff)

    third₆ : So (any f.records (λ L. source? f y L && writer? f x L && not (eqb x y) && C x L))
        ↔ ((L : ℕ) × (L < f.records) × (((Source f y L × Writer f x L) × (x ≢ y)) × D x L))
    third₆ = any-iff (λ L. and-iff (and-iff (and-iff (source-iff f y L) (writer-iff f x L)) (not_iff so-eq)) (c x L))

    third₇ : So (any f.records (λ S. source? f S x && writer? f y x && not (eqb y S) && C S y))
        ↔ ((S : ℕ) × (S < f.records) × (((Source f S x × Writer f y x) × (y ≢ S)) × D S y))
    third₇ = any-iff (λ S. and-iff (and-iff (and-iff (source-iff f S x) (writer-iff f y x)) (not_iff so-eq)) (c S y))

    two : So (source? f x y && not (f.earlier x y)) ↔ (Source f x y × (So (f.earlier x y) → ⊥))
    two = and-iff (source-iff f x y) (not_iff same-iff)

    five : So (first? f x y && f.earlier x y) ↔ (First f x y × So (f.earlier x y))
    five = and-iff (first-iff f x y) same-iff

    there : {r : ℕ} → Gives f K P D x y r → So (gives? f K P C x y r)
    unfolding gives? rules
    there (rule1 k) = k
    there (rule2 s n) = two.1 (s, n)
    there (rule3 L s w d o) = third₃.1 (L, reader-below s.reads, (((s, w), d), o))
    there (rule4 s) = (first-iff f y x).1 s
    there (rule5 s o) = five.1 (s, o)
    there (rule6 L s w d h) = third₆.1 (L, reader-below s.reads, (((s, w), d), h))
    there (rule7 S s w d h) = third₇.1 (S, writer-below s.writer, (((s, w), d), h))
    there (rule8 k) = k

    back : (r : ℕ) → So (gives? f K P C x y r) → Gives f K P D x y r
    unfolding gives? rules
    back zero t = absurd (false≢true t)
    back (suc zero) t = rule1 t
    back (suc (suc zero)) t = let p = two.0 t in rule2 p.0 p.1
    back (suc (suc (suc zero))) t = let p = third₃.0 t in rule3 p.0 p.2.0.0.0 p.2.0.0.1 p.2.0.1 p.2.1
    back (suc (suc (suc (suc zero)))) t = rule4 ((first-iff f y x).0 t)
    back (suc (suc (suc (suc (suc zero))))) t = let p = five.0 t in rule5 p.0 p.1
    back (suc (suc (suc (suc (suc (suc zero)))))) t = let p = third₆.0 t in rule6 p.0 p.2.0.0.0 p.2.0.0.1 p.2.0.1 p.2.1
    back (suc (suc (suc (suc (suc (suc (suc zero))))))) t = let p = third₇.0 t in rule7 p.0 p.2.0.0.0 p.2.0.0.1 p.2.0.1 p.2.1
    back (suc (suc (suc (suc (suc (suc (suc (suc zero)))))))) t = rule8 t
    back (suc (suc (suc (suc (suc (suc (suc (suc (suc r))))))))) t = absurd (false≢true t)

    pub gives-iff : (r : ℕ) → So (gives? f K P C x y r) ↔ Gives f K P D x y r
    gives-iff r = (back r, there)

    pub step-iff : So (step? f K P C x y) ↔ Step f K P D x y
    unfolding step?
    step-iff = (λ t. let p = some.0 t in (p.0, p.2), λ s. some.1 (s.0, gives-small s.1, s.1))
      where
        some : So (any 9 (gives? f K P C x y)) ↔ ((r : ℕ) × (r < 9) × Gives f K P D x y r)
        some = any-iff gives-iff

  module _ (K P : Table) (inK : InRecords f K) (in_p : InRecords f P) where
    pub chains-iff : (k x y : ℕ) → So (chains? f K P k x y) ↔ Chains f K P k x y
    unfolding chains?
    chains-iff zero x y = (λ t. absurd (false≢true t), λ t. absurd t)
    chains-iff (suc k) x y = warshall (Edge f K P k) f.records _ (step-within f g K P inK in_p (Chains f K P k)) (λ x y _ _. step-iff K P (chains? f K P k) (Chains f K P k) (chains-iff k) x y) x y

    pub edge-iff : (k x y : ℕ) → So (edge? f K P k x y) ↔ Edge f K P k x y
    unfolding edge?
    edge-iff k x y = step-iff K P (chains? f K P k) (Chains f K P k) (chains-iff k) x y

    pub last-round : (k : ℕ) × (k ≤ f.records * f.records) × Last f K P k
    unfolding Still Last
    last-round =
        let s = stops f.records (edge? f K P) (λ k x y t. (edge-iff (suc k) x y).1 (edge-grow f K P k x y ((edge-iff k x y).0 t))) in (
          s.0,
          s.1,
          λ x y e. let b = step-within f g K P inK in_p (Chains f K P (suc s.0)) x y e in
              (edge-iff s.0 x y).0 (s.2 x y b.0 b.1 ((edge-iff (suc s.0) x y).1 e)),
        )
