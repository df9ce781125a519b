-- The turns of the rounds draw what the rules give.
--
--   first-edges      == what is drawn first is round 0
--   settled-gives    == what is drawn from chains is what rules 6 and 7 give
--   next-edges       == added to a round, it makes the next one
--   writers-noted    == the writers that are noted are the writers
use mathlib.Core.Path.{◌≡◌, refl, sym, ◌∙◌}
use mathlib.Core.Logic.{◌↔◌, ◌⊎◌, inl, inr}
use mathlib.Core.Bool.{So, not, ◌&&◌, ◌||◌}
use mathlib.Core.List.{List}
use Prim.Native.Nat.{ℕ, suc, ◌<◌, ◌≤◌}
use native.Mathlib.Omega.{arith}
use lib.Dec.{eqb, ltb}
use lib.ListN.{get_or}
use Rattle.laws.specs.Relation.{Rel, Table}
use Rattle.laws.proofs.Tests.{and-iff, or-iff, not_iff, same-iff, so-eq, so-lt}
use Rattle.trace.specs.Bounds.{RECORDS}
use Rattle.rules.specs.Frame.{Frame, Good, Writer, Source, First}
use Rattle.rows.specs.Rows.{bit}
use Rattle.rules.specs.Rules.{Gives, rule1, rule2, rule3, rule4, rule5, rule6, rule7, rule8, Chains, Edge, InRecords}
use Rattle.rules.specs.RuleTests.{writer?}
use Rattle.edges.specs.inner.PairSets.{Only, Union, Cover}
use Rattle.rows.specs.inner.AddedPairs.{Added}
use Rattle.pairs.specs.SourceOf.{source_of}
use Rattle.edges.specs.inner.DrawnEdges.{Valued, reads_first, ValuedFor, second, third, fourth, fifth, Settled, SettledFor, sixth, seventh}
use Rattle.edges.specs.inner.RoundStep.{Facts}
use Rattle.rules.proofs.Rounds.{edge-next}
use Rattle.rules.proofs.RuleTests.{writer-iff}
use Rattle.pairs.proofs.SourceOf.{source-of-is, source-of-has}

module _ (f : Frame) (g : Good f) (small : f.records ≤ RECORDS) where
  writer-below : {S L : ℕ} → Writer f S L → S < f.records
  writer-below {S} w = g.below S (g.writes S w.writes)

  reader-below : {L : ℕ} → So (f.reads L) → L < f.records
  reader-below {L} r = g.below L (g.reads L r)

  -- a record that is the source
  is-source : (S L : ℕ) → S < RECORDS → S ≡ source_of f L → Source f S L
  is-source S L h e = rw e (source-of-is f L (omega arith))

  the-source : (S L : ℕ) → Source f S L → source_of f L ≡ S
  the-source S L s = source-of-has f L g S (omega (arith, writer-below s.writer)) s

  -- the tests of rules 2 to 5
  test₂ : (S L : ℕ) → So (eqb S (source_of f L) && not (f.earlier S L)) ↔ ((S ≡ source_of f L) × (So (f.earlier S L) → ⊥))
  test₂ S L = and-iff so-eq (not_iff same-iff)

  test₃ : (S L : ℕ) → So (ltb (source_of f L) RECORDS && not (eqb S (source_of f L)) && f.earlier S L) ↔ (((source_of f L < RECORDS) × (S ≡ source_of f L → ⊥)) × So (f.earlier S L))
  test₃ S L = and-iff (and-iff so-lt (not_iff so-eq)) same-iff

  test₄ : (L : ℕ) → So (reads_first f L) ↔ (So (f.reads L) × (f.read L ≡ f.first (f.address L)))
  test₄ L = and-iff same-iff so-eq

  test₅ : (S L : ℕ) → So (reads_first f L && f.earlier S L) ↔ ((So (f.reads L) × (f.read L ≡ f.first (f.address L))) × So (f.earlier S L))
  test₅ S L = and-iff (test₄ L) same-iff

  first_of : (S L : ℕ) → Writer f S L → So (f.reads L) × (f.read L ≡ f.first (f.address L)) → First f S L
  first_of S L w p = record { writer = w; reads = p.0; value = p.1 }

  module _ (K P : Table) (inK : InRecords f K) (in_p : InRecords f P) where
    valued-gives : (S L x y : ℕ) → S < f.records → Writer f S L → Valued (f.earlier S L) (reads_first f L) (source_of f L) S L x y → Edge f K P 0 x y
    valued-gives S L x y h w (second o) = let p = (test₂ S L).0 o.0 in rw (o.1, o.2) (2, rule2 (is-source S L (omega arith) p.0) p.1)
    valued-gives S L x y h w (third o) = let p = (test₃ S L).0 o.0 in rw (o.1, o.2) (3, rule3 L (source-of-is f L p.0.0) w p.0.1 p.1)
    valued-gives S L x y h w (fourth o) = rw (o.1, o.2) (4, rule4 (first_of S L w ((test₄ L).0 o.0)))
    valued-gives S L x y h w (fifth o) = let p = (test₅ S L).0 o.0 in rw (o.1, o.2) (5, rule5 (first_of S L w p.0) p.1)

    abbrev Drawn : Rel
    Drawn x y =
        Cover f.records (λ x y. Only (K x y || P x y) x y) x y
        ⊎ Union f.records (λ L x y. So (f.reads L) × Union f.records (ValuedFor f L) x y) x y

    -- a writer's turn
    turn : (S L x y : ℕ) → So (f.reads L) → Writer f S L → Valued (f.earlier S L) (reads_first f L) (source_of f L) S L x y → Drawn x y
    unfolding Union
    turn S L x y r w v = inr (L, reader-below r, (r, (S, writer-below w, ((writer-iff f S L).1 w, v))))

    there : (x y : ℕ) → Drawn x y → Edge f K P 0 x y
    unfolding Union
    there x y (inl u) =
        let o = u.2.2 in
        rw (o.1, o.2) (elim ((or-iff (same-iff {a = K u.0 u.2.0}) (same-iff {a = P u.0 u.2.0})).0 o.0) [ inl k ↦ (1, rule1 k) | inr k ↦ (8, rule8 k) ])
    there x y (inr u) = let v = u.2.1 in valued-gives v.0 u.0 x y v.1 ((writer-iff f v.0 u.0).0 v.2.0) v.2.1

    back : (x y : ℕ) {r : ℕ} → Gives f K P (Chains f K P 0) x y r → Drawn x y
    unfolding Union
    back x y (rule1 k) = let b = inK x y k in inl (x, b.0, (y, b.1, ((or-iff (same-iff {a = K x y}) (same-iff {a = P x y})).1 (inl k), refl, refl)))
    back x y (rule2 s n) = turn x y x y s.reads s.writer (second ((test₂ x y).1 (sym (the-source x y s), n), refl, refl))
    back x y (rule3 L s w d o) =
        let e = the-source y L s in
        turn x L x y s.reads w (third ((test₃ x L).1 ((omega (arith, writer-below s.writer), λ q. d (q ∙ e)), o), refl, sym e))
    back x y (rule4 s) = turn y x x y s.reads s.writer (fourth ((test₄ x).1 (s.reads, s.value), refl, refl))
    back x y (rule5 s o) = turn x y x y s.reads s.writer (fifth ((test₅ x y).1 ((s.reads, s.value), o), refl, refl))
    back x y (rule6 L s w d c) = absurd c
    back x y (rule7 S s w d c) = absurd c
    back x y (rule8 k) = let b = in_p x y k in inl (x, b.0, (y, b.1, ((or-iff (same-iff {a = K x y}) (same-iff {a = P x y})).1 (inr k), refl, refl)))

    pub first-edges : (x y : ℕ) → Drawn x y ↔ Edge f K P 0 x y
    first-edges x y = (there x y, λ e. back x y e.1)

    module _ (s w h : List ℕ) (facts : Facts f s w) (C : Rel) (has : (x y : ℕ) → So (bit h x y) ↔ C x y) where
      -- who settles a load is another writer of its address
      other : (S L z : ℕ) → So (f.reads L) → So (bit w L z && not (eqb z S)) ↔ (Writer f z L × (z ≡ S → ⊥))
      other S L z r = and-iff (facts.writers z L r) (not_iff so-eq)

      settled : (S L z x y : ℕ) → Source f S L → Writer f z L → (z ≡ S → ⊥) → Settled h S L z x y → Gives f K P C x y 6 ⊎ Gives f K P C x y 7
      settled S L z x y s w d (sixth o) = inl (rw (o.1, o.2) (rule6 L s w d ((has z L).0 o.0)))
      settled S L z x y s w d (seventh o) = inr (rw (o.1, o.2) (rule7 S s w d ((has S z).0 o.0)))

      from : (x y : ℕ) → Union f.records (SettledFor f.records s w h) x y → Gives f K P C x y 6 ⊎ Gives f K P C x y 7
      unfolding Union
      from x y u =
          let S = get_or s u.0 0 in
          let v = u.2.1 in
          let src = is-source S u.0 u.2.0 (facts.sources u.0 u.1) in
          let o = (other S u.0 v.0 src.reads).0 v.2.0 in
          settled S u.0 v.0 x y src o.0 o.1 v.2.1

      -- the source that is noted for a load
      noted : (S L : ℕ) → Source f S L → get_or s L 0 ≡ S
      noted S L p = facts.sources L (reader-below p.reads) ∙ the-source S L p

      -- another writer's turn
      turn₆₇ : (S L z x y : ℕ) → Source f S L → Writer f z L → (z ≡ S → ⊥) → Settled h S L z x y → Union f.records (SettledFor f.records s w h) x y
      unfolding Union
      turn₆₇ S L z x y p q d v =
          let n = noted S L p in
          (L, reader-below p.reads, (omega (arith, writer-below p.writer), (z, writer-below q, rw n ((other S L z p.reads).1 (q, d), v))))

      out : {r : ℕ} → (r ≡ 6 → ⊥) → (r ≡ 7 → ⊥) → (r ≡ 6) ⊎ (r ≡ 7) → ⊥
      out n₆ n₇ e = elim e [ inl q ↦ n₆ q | inr q ↦ n₇ q ]

      into : (x y : ℕ) {r : ℕ} → Gives f K P C x y r → (r ≡ 6) ⊎ (r ≡ 7) → Union f.records (SettledFor f.records s w h) x y
      unfolding Union
      into x y (rule6 L p q d c) e = turn₆₇ y L x x y p q d (sixth ((has x L).1 c, refl, refl))
      into x y (rule7 S p q d c) e = turn₆₇ S x y x y p q d (seventh ((has S y).1 c, refl, refl))
      into x y (rule1 k) e = absurd (out (omega arith) (omega arith) e)
      into x y (rule2 s n) e = absurd (out (omega arith) (omega arith) e)
      into x y (rule3 L s w d o) e = absurd (out (omega arith) (omega arith) e)
      into x y (rule4 s) e = absurd (out (omega arith) (omega arith) e)
      into x y (rule5 s o) e = absurd (out (omega arith) (omega arith) e)
      into x y (rule8 k) e = absurd (out (omega arith) (omega arith) e)

      pub settled-gives : (x y : ℕ) → Union f.records (SettledFor f.records s w h) x y ↔ (Gives f K P C x y 6 ⊎ Gives f K P C x y 7)
      settled-gives x y = (from x y, λ e. elim e [ inl r ↦ into x y r (inl refl) | inr r ↦ into x y r (inr refl) ])

    pub next-edges : (s w h e e' : List ℕ) → Facts f s w → (k : ℕ)
        → ((x y : ℕ) → So (bit e x y) ↔ Edge f K P k x y)
        → ((x y : ℕ) → So (bit h x y) ↔ Chains f K P (suc k) x y)
        → Added e (Union f.records (SettledFor f.records s w h)) e'
        → (x y : ℕ)
        → So (bit e' x y) ↔ Edge f K P (suc k) x y
    next-edges s w h e e' facts k now chains adds x y =
        let n = edge-next f K P k x y in
        let r = settled-gives s w h facts (Chains f K P (suc k)) chains x y in (
          λ b. n.1 (elim ((adds.pairs x y).0 b) [ inl c ↦ inl ((now x y).0 c) | inr u ↦ inr (r.0 u) ]),
          λ d. (adds.pairs x y).1 (elim (n.0 d) [ inl c ↦ inl ((now x y).1 c) | inr u ↦ inr (r.1 u) ]),
        )

  pub writers-noted : (w₀ w : List ℕ) → ((x y : ℕ) → So (bit w₀ x y) → ⊥)
      → Added w₀ (Union f.records (λ L x y. So (f.reads L) × Union f.records (λ S. Only (writer? f S L) L S) x y)) w
      → (S L : ℕ) → So (f.reads L) → So (bit w L S) ↔ Writer f S L
  unfolding Union
  writers-noted w₀ w none adds S L r = (
    λ b. elim ((adds.pairs L S).0 b) [ inl c ↦ absurd (none L S c) | inr u ↦ let v = u.2.1 in let o = v.2 in rw (o.1, o.2) ((writer-iff f v.0 u.0).0 o.0) ],
    λ q. (adds.pairs L S).1 (inr (L, reader-below r, (r, (S, writer-below q, ((writer-iff f S L).1 q, refl, refl))))),
  )
