-- The edges that can lie on a circle, found row by row, and what is shown of them.
--
--   OthersBelow C x set        == of the records below x, the set has those that are in no pair with themselves
--   others-none, others-turn, others-all == before the first record; one record more; all of them
--   RingBelow E C x ring       == the rows below x have the edges of the ring, the others none
--   ring-none, ring-turn, ring-skip, ring-all == before the first row; the row of a record on a circle; of one on none; all rows
--   circle-mono                == a circle of edges is one of more edges
--   ring-circle                == every circle of the edges is one of the ring
--   shown-ring                 == what is shown of the ring is what is shown of the edges
use mathlib.Core.Path.{◌≡◌, sym, ◌∙◌, subst}
use mathlib.Core.Logic.{◌↔◌, inl, inr}
use mathlib.Core.Bool.{Bool, true, false, So, not, false≢true}
use mathlib.Core.List.{List, [], ◌∷◌}
use mathlib.Core.Option.{Option, none, some}
use Prim.Native.Nat.{ℕ, ◌+◌, ◌*◌, ◌<◌, ◌≤◌}
use native.Mathlib.Omega.{arith}
use lib.ListN.{length, length-replicate}
use Rattle.laws.specs.Relation.{Rel, Chain, one, more}
use Rattle.laws.proofs.Relation.{chain-join}
use Rattle.laws.proofs.Tests.{eq?, test}
use Rattle.trace.specs.Bounds.{RECORDS}
use Rattle.rows.specs.Bounds.{WORDS, CELLS}
use Rattle.rows.specs.Empty.{empty_of}
use Rattle.rows.specs.Put.{put_if}
use Rattle.rows.specs.DropRow.{drop_row_of}
use Rattle.rows.specs.Rows.{bit, Edges}
use Rattle.rows.proofs.Rows.{bit-bounds}
use Rattle.rows.proofs.Whole.{empty-bit}
use Rattle.rows.proofs.Sets.{put-more}
use Rattle.rows.proofs.Dropping.{drop-long, row-dropped}
use Rattle.rules.specs.Circle.{Run, Circle, Shown}
use Rattle.rules.proofs.Circle.{run-chain}
use Rattle.circle.specs.ShownIn.{circle_of, ShownIn}
use Rattle.circle.specs.inner.WalkRows.{Widened}
use Rattle.circle.specs.inner.Ring.{Others, Between, RingOf}

-- The records on no circle --------------------------------------------------------------------------------------------------------------------

pub record OthersBelow (C : List ℕ) (x : ℕ) (set : List ℕ) : Type 0 where
  pub long : length set ≡ WORDS
  pub has : (y : ℕ) → So (bit set 0 y) ↔ ((y < x) × (Edges C y y → ⊥))

module _ (C : List ℕ) where
  pub others-none : OthersBelow C 0 (empty_of WORDS)
  others-none = record { long = length-replicate {A = ℕ} WORDS 0; has = λ y. (λ t. absurd (false≢true (sym (empty-bit WORDS 0 y) ∙ t)), λ h. absurd (omega (arith, h.0))) }

  pub others-turn : (x : ℕ) (set next : List ℕ) → x < RECORDS → OthersBelow C x set → (b : Bool) → b ≡ bit C x x → next ≡ put_if set (not b) 0 x → OthersBelow C (x + 1) next
  unfolding put_if
  others-turn x set next h o true e q = rw q record {
    long = o.long;
    has = λ y. (
      λ t. let r = (o.has y).0 t in (omega (arith, r.0), r.1),
      λ r. elim (eq? y x) [ inl p ↦ absurd (r.1 (subst (λ (y : ℕ). Edges C y y) (sym p) (sym e))) | inr d ↦ (o.has y).1 (omega (arith, r.0), r.1) ],
    );
  }
  others-turn x set next h o false e q = rw q (let more = put-more set x o.long h in record {
    long = more.long;
    has = λ y. (
      λ t. elim ((more.has y).0 t) [
        | inl s ↦ let r = (o.has y).0 s in (omega (arith, r.0), r.1)
        | inr p ↦ (omega arith, λ c. false≢true (e ∙ subst (λ (y : ℕ). Edges C y y) p c))
      ],
      λ r. (more.has y).1 (elim (eq? y x) [ inl p ↦ inr p | inr d ↦ inl ((o.has y).1 (omega (arith, r.0), r.1)) ]),
    );
  })

  pub others-all : (x : ℕ) (set : List ℕ) → x ≡ RECORDS → OthersBelow C x set → Others C set
  others-all x set e o y = rw e at (o.has y)

-- The rows ------------------------------------------------------------------------------------------------------------------------------------

pub record RingBelow (E C : List ℕ) (x : ℕ) (ring : List ℕ) : Type 0 where
  pub long : length ring ≡ CELLS
  pub pairs : (i j : ℕ) → So (bit ring i j) ↔ ((i < x) × Between E C i j)

module _ (E C : List ℕ) where
  pub ring-none : (n : ℕ) → n ≡ CELLS → RingBelow E C 0 (empty_of n)
  ring-none n e = record { long = length-replicate {A = ℕ} n 0 ∙ e; pairs = λ i j. (λ t. absurd (false≢true (sym (empty-bit n i j) ∙ t)), λ h. absurd (omega (arith, h.0))) }

  pub ring-turn : (others : List ℕ) → Others C others → (x : ℕ) (now mid next : List ℕ) → x < RECORDS → RingBelow E C x now → Edges C x x → Widened now (λ i j. (i ≡ x) × Edges E x j) mid → next ≡ drop_row_of others 0 mid x
      → RingBelow E C (x + 1) next
  ring-turn others o x now mid next h below c wide q = rw q record { long = drop-long others 0 mid x h room ∙ full; pairs = λ i j. (forth i j, back i j) }
    where
      full : length mid ≡ CELLS
      full = wide.long ∙ below.long

      room : x * WORDS + WORDS ≤ length mid
      room = omega (arith, full, h)

      forth : (i j : ℕ) → So (bit (drop_row_of others 0 mid x) i j) → (i < x + 1) × Between E C i j
      forth i j t =
          let r = (row-dropped others 0 mid x h room i j).0 t in
          elim ((wide.pairs i j).0 r.0) [
            | inl s ↦ let b = (below.pairs i j).0 s in (omega (arith, b.0), b.1)
            | inr (p, e) ↦ elim (test (bit C j j)) [
              | inl d ↦ (omega arith, (subst (λ (i : ℕ). Edges E i j) (sym p) e, subst (λ (i : ℕ). Edges C i i) (sym p) c, d))
              | inr d ↦ absurd (r.1 (p, (o j).1 ((bit-bounds E x j e).1, λ y. false≢true (sym d ∙ y))))
            ]
          ]

      back : (i j : ℕ) → (i < x + 1) × Between E C i j → So (bit (drop_row_of others 0 mid x) i j)
      back i j (l, b) =
          (row-dropped others 0 mid x h room i j).1 (
            (wide.pairs i j).1 (elim (eq? i x) [ inl p ↦ inr (p, subst (λ (i : ℕ). Edges E i j) p b.0) | inr d ↦ inl ((below.pairs i j).1 (omega arith, b)) ]),
            λ g. ((o j).0 g.1).1 b.2,
          )

  pub ring-skip : (x : ℕ) (now : List ℕ) → bit C x x ≡ false → RingBelow E C x now → RingBelow E C (x + 1) now
  ring-skip x now n below = record {
    long = below.long;
    pairs = λ i j. (
      λ t. let b = (below.pairs i j).0 t in (omega (arith, b.0), b.1),
      λ b. elim (eq? i x) [ inl p ↦ absurd (false≢true (sym n ∙ subst (λ (i : ℕ). Edges C i i) p b.1.1)) | inr d ↦ (below.pairs i j).1 (omega (arith, b.0), b.1) ],
    );
  }

  pub ring-all : (x : ℕ) (ring : List ℕ) → x ≡ RECORDS → RingBelow E C x ring → RingOf E C ring
  ring-all x ring e below = record {
    long = below.long;
    pairs = λ i j. (λ t. ((below.pairs i j).0 t).1, λ b. (below.pairs i j).1 (omega (arith, (bit-bounds E i j b.0).0), b));
  }

-- What is shown -------------------------------------------------------------------------------------------------------------------------------

run-mono : (E F : Rel) → ((x y : ℕ) → E x y → F x y) → (a : ℕ) (xs : List ℕ) (z : ℕ) → Run E a xs z → Run F a xs z
run-mono E F h a [] z r = h a z r
run-mono E F h a (b ∷ bs) z r = (h a b r.0, run-mono E F h b bs z r.1)

pub circle-mono : (E F : Rel) → ((x y : ℕ) → E x y → F x y) → (c : List ℕ) → Circle E c → Circle F c
circle-mono E F h [] c = c
circle-mono E F h (x ∷ xs) c = run-mono E F h x xs x c

-- F has the edges of E whose ends both have a chain to themselves
module _ (E F : Rel) (has : (x y : ℕ) → E x y → Chain E x x → Chain E y y → F x y) where
  -- a chain leads from z back to a, or they are the same
  run-ring : (a : ℕ) (xs : List ℕ) (z : ℕ) → Run E a xs z → ((y : ℕ) → Chain E a y → Chain E z y) → ((y : ℕ) → Chain E y z → Chain E y a) → Run F a xs z
  run-ring a [] z r out home = has a z r (home a (one r)) (out z (one r))
  run-ring a (b ∷ bs) z (e, r) out home =
      let on : Chain E b z = run-chain E b bs z r in
      let back : Chain E z b = out b (one e) in
      (has a b e (home a (more e on)) (chain-join on back), run-ring b bs z r (λ y c. chain-join back c) (λ y c. chain-join c back))

  pub ring-circle : (c : List ℕ) → Circle E c → Circle F c
  ring-circle [] c = c
  ring-circle (x ∷ xs) c = run-ring x xs x c (λ y c. c) (λ y c. c)

pub shown-ring : (E C ring : List ℕ) (room len : ℕ) (out : List ℕ) → length E ≡ CELLS → ((x : ℕ) → Chain (Edges E) x x → Edges C x x) → RingOf E C ring → ShownIn ring room len out → ShownIn E room len out
shown-ring E C ring room len out full chained is s = record {
  long = s.long;
  fits = s.fits;
  rest = s.rest;
  shown = λ _ places. go (circle_of len out) (s.shown is.long places);
  other = λ d. elim d [ inl n ↦ absurd (n full) | inr n ↦ s.other (inr n) ];
}
  where
    into : (c : List ℕ) → Circle (Edges E) c → Circle (Edges ring) c
    into = ring-circle (Edges E) (Edges ring) (λ x y e p q. (is.pairs x y).1 (e, chained x p, chained y q))

    go : (a : Option (List ℕ)) → Shown (Edges ring) a → Shown (Edges E) a
    go none h = λ d c. h d (into d c)
    go (some c) h = (circle-mono (Edges ring) (Edges E) (λ x y t. ((is.pairs x y).0 t).0) c h.0, λ d e. h.1 d (into d e))
