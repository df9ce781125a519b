-- What the functions that draw edges add is what the rules give.
--
--   writer-at, earlier-at, early-at, reads_at == the tests of rules 2 to 5, as a function reads them off two records
--   address-at                                == its address
--   stored_at, stored                         == a record that is noted by its address, and all of them
--   others-row, others-writers                == a row but for the load; the records noted by the load's address, but for it, are the writers
--   row_laid, early-drawn                     == the writers' row added to the load's row; likewise where the load reads the first value
--   third-small, second_at, second_none       == rules 3 and 2, whose source is there or not
--   passed-by, passed_none, passed-other      == a writer's turn for a load by rules 3 and 5, and that of one not noted or not earlier
--   noted, valued-all                         == the writers of a load, noted; what they give it, rule by rule
--   loaded-none, loaded-more, loaded-skip     == a load's turn, and that of a record that does not read
--   settled_at                                == another writer's turn for a load with a source, by rules 6 and 7
--   turned, settled-by                        == the same of a number that is noted
--   settled-other, settled-none               == of the source, and of one that is not noted: nothing
--   next-on, next-at, next-seen               == a row's next number is further on; it is in the row, or there is none; what a walk along the row has passed one step later
use mathlib.Core.Path.{◌≡◌, refl, sym, ◌∙◌}
use mathlib.Core.Logic.{◌⊎◌, inl, inr, ◌↔◌}
use mathlib.Core.Bool.{Bool, false, So, not, ◌&&◌, false≢true}
use mathlib.Core.List.{List}
use Prim.Native.Nat.{ℕ, ◌+◌, ◌<◌, ◌≤◌}
use native.Mathlib.Decide.{dec_lt}
use native.Mathlib.Omega.{arith}
use borrow.Author.Count.{below_more}
use lib.Dec.{eqb, ltb}
use lib.ListN.{length, get_or}
use Rattle.laws.specs.Relation.{Rel}
use Rattle.laws.proofs.Tests.{off, and-iff, not_iff, same-iff, so-eq, so-lt, eq?}
use Rattle.trace.specs.Bounds.{RECORDS}
use Rattle.trace.specs.Op.{thread, address, read, reads, writes}
use Rattle.trace.specs.Trace.{at, first}
use Rattle.rules.specs.Frame.{Frame}
use Rattle.trace.specs.Meaning.{frame_of}
use Rattle.trace.specs.declared.Trace.{Trace}
use Rattle.rows.specs.Bounds.{WORDS, CELLS}
use Rattle.rows.specs.Rows.{bit, Edges, Words}
use Rattle.rows.specs.Put.{put_of}
use Rattle.rows.specs.Empty.{empty_of}
use Rattle.rows.specs.Next.{NextInRow}
use Rattle.rows.specs.AddRow.{add_row_of}
use Rattle.rows.specs.DropRow.{drop_row_of}
use Rattle.rows.proofs.Whole.{empty-bit, empty-long, empty-words}
use Rattle.rows.proofs.Pair.{put-words}
use Rattle.rows.proofs.Closing.{row-added}
use Rattle.rows.proofs.Dropping.{row-dropped, drop-words}
use Rattle.rules.specs.RuleTests.{writer?}
use Rattle.edges.specs.inner.PairSets.{Only, Union}
use Rattle.rows.specs.inner.AddedPairs.{Added}
use Rattle.pairs.specs.SourceOf.{source_of}
use Rattle.pairs.proofs.SourceOf.{source-of-is}
use Rattle.pairs.proofs.KeptPairs.{earlier-iff}
use Rattle.edges.specs.inner.DrawnEdges.{Stored, Valued, Passed, PassedBy, reads_first, ValuedFor, Loaded, second, third, fourth, fifth, Settled, sixth, seventh, SettledBy}
use Rattle.rules.proofs.RuleTests.{writer-iff}
use Rattle.edges.proofs.LaterRecords.{from_empty, put-added}
use Rattle.edges.proofs.PairSets.{adds-only, adds-as, adds-or, union-none, union_more, union-skip}

module _ (t : Trace) (S L : ℕ) where
  pub writer-at : S < t.len → (w : Bool) (a b : ℕ) → w ≡ writes (at t S) → a ≡ address (at t S) → b ≡ address (at t L)
      → (w && eqb a b && not (eqb S L)) ≡ writer? (frame_of t) S L
  unfolding writer? frame_of
  writer-at h w a b p q r = rw (p, q, r, (so-lt {m = S} {n = t.len}).1 h) refl

  pub earlier-at : (a b : ℕ) → a ≡ thread (at t S) → b ≡ thread (at t L) → (ltb S L && eqb a b) ≡ (frame_of t).earlier S L
  unfolding frame_of
  earlier-at a b p q = rw (p, q) refl

  pub early-at : L < t.len → (r : Bool) (v b : ℕ) → r ≡ reads (at t L) → v ≡ read (at t L) → b ≡ first t (address (at t L)) → (r && eqb v b) ≡ reads_first (frame_of t) L
  unfolding frame_of
  early-at h r v b q o e = rw (q, o, e, (so-lt {m = L} {n = t.len}).1 h) refl

  pub stored_at : L < t.len → (w : Bool) (a : ℕ) → w ≡ writes (at t L) → a ≡ address (at t L) → {d e : List ℕ} → Added d (Only w a L) e → Added d (Only ((frame_of t).writes L) ((frame_of t).address L) L) e
  unfolding frame_of
  stored_at h w a p q add = rw ((so-lt {m = L} {n = t.len}).1 h) (rw (p, q) at add)

  pub address-at : (a : ℕ) → a ≡ address (at t L) → a ≡ (frame_of t).address L
  unfolding frame_of
  address-at a q = q

  pub reads_at : L < t.len → (r : Bool) → r ≡ reads (at t L) → r ≡ (frame_of t).reads L
  unfolding frame_of
  reads_at h r q = rw ((so-lt {m = L} {n = t.len}).1 h) q

-- rule 3 draws to a source that is there
pub third-small : (b : Bool) (source : ℕ) → So (ltb source RECORDS && b) → source < RECORDS
third-small b source s = ((and-iff (so-lt {m = source} {n = RECORDS}) (same-iff {a = b})).0 s).0

-- rule 2, as a function reads it off two records
pub second_at : (t : Trace) (S L : ℕ) → S < RECORDS → (e : Bool) → e ≡ (frame_of t).earlier S L → not e ≡ (ltb S RECORDS && not ((frame_of t).earlier S L))
second_at t S L h e p = rw (p, (so-lt {m = S} {n = RECORDS}).1 h) refl

pub second_none : (b : Bool) (S : ℕ) → RECORDS ≤ S → (ltb S RECORDS && b) ≡ false
second_none b S h = off (λ s. omega (arith, third-small b S s))

module _ (st : List ℕ) (words : Words st) (a L : ℕ) (h : L < RECORDS) (o q r : List ℕ) (po : o ≡ put_of (empty_of WORDS) 0 L) (pq : q ≡ add_row_of st a (empty_of WORDS) 0) (pr : r ≡ drop_row_of o 0 q 0) where
  own : (y : ℕ) → So (bit o 0 y) ↔ ((◌≡◌ {A = ℕ} 0 0) × (y ≡ L))
  own y = from_empty WORDS (λ i j. (i ≡ 0) × (j ≡ L)) o (rw po (put-added (empty_of WORDS) 0 L (omega arith) h (omega (arith, empty-long WORDS)))) 0 y

  given : Added (empty_of WORDS) (λ i j. (i ≡ 0) × Edges st a j) q
  given = rw pq (row-added st words a (empty_of WORDS) 0 (omega arith) (omega (arith, empty-long WORDS)))

  long : length q ≡ WORDS
  long = given.long ∙ empty-long WORDS

  pub others-row : Words r × ((y : ℕ) → Edges r 0 y ↔ (Edges st a y × (y ≡ L → ⊥)))
  others-row = (
    rw pr (drop-words o (rw po (put-words (empty_of WORDS) 0 L (empty-words WORDS))) 0 q (given.words (empty-words WORDS)) 0),
    λ y.
        let d = row-dropped o 0 q 0 (omega arith) (omega (arith, long)) 0 y in
        let g = from_empty WORDS _ q given 0 y in
        rw pr (λ t. let u = d.0 t in ((g.0 u.0).1, λ e. u.1 (refl, (own y).1 (refl, e))), λ u. d.1 (g.1 (refl, u.0), λ e. u.1 ((own y).0 e.1).1)),
  )

pub row_laid : (o : List ℕ) → Words o → (L : ℕ) → L < RECORDS → (e e' : List ℕ) → length e ≡ CELLS → e' ≡ add_row_of o 0 e L → Added e (λ i j. (i ≡ L) × Edges o 0 j) e'
row_laid o w L h e e' l q = rw q (row-added o w 0 e L h (omega (arith, h, l)))

pub early-drawn : (y : Bool) → So y → (o : List ℕ) → Words o → (L : ℕ) → L < RECORDS → (e e' : List ℕ) → length e ≡ CELLS → e' ≡ add_row_of o 0 e L → Added e (λ i j. So y × (i ≡ L) × Edges o 0 j) e'
early-drawn y t o w L h e e' l q = adds-as _ (row_laid o w L h e e' l q) (λ i j. (λ u. (t, u.0, u.1), λ u. (u.1, u.2)))

module _ (f : Frame) (w : List ℕ) (y : Bool) (s L z : ℕ) where
  pub passed-by : So (bit w 0 z) → So (f.earlier z L) → {a b : List ℕ} → Added a (Passed y s z L) b → Added a (PassedBy f w y s L z) b
  passed-by t e p = adds-as (PassedBy f w y s L z) p (λ i j. (λ v. ((t, e), v), λ v. v.1))

  pub passed_none : (So (bit w 0 z) → ⊥) → (i j : ℕ) → PassedBy f w y s L z i j → ⊥
  passed_none n i j v = n v.0.0

  pub passed-other : (So (f.earlier z L) → ⊥) → (i j : ℕ) → PassedBy f w y s L z i j → ⊥
  passed-other n i j v = n v.0.1

-- a row that has the writers of the load's address
module _ (t : Trace) (L : ℕ) (o : List ℕ) (is : (x : ℕ) → Edges o 0 x ↔ So (writer? (frame_of t) x L)) where
  writer-below : (x : ℕ) → So (writer? (frame_of t) x L) → x < t.len
  unfolding frame_of
  writer-below x w = ((and-iff (so-lt {m = x} {n = t.len}) (same-iff {a = writes (at t x)})).0 ((writer-iff (frame_of t) x L).0 w).writes).0

  pub noted : {a b : List ℕ} → Added a (λ i j. (i ≡ L) × Edges o 0 j) b → Added a (Union t.len (λ x. Only (writer? (frame_of t) x L) L x)) b
  unfolding Union
  noted p = adds-as _ p (λ i j. (
    λ u. let w = (is j).0 u.1 in (j, writer-below j w, (w, u.0, refl)),
    λ u. (u.2.1, (is j).1 (rw u.2.2 u.2.0)),
  ))

  module _ (small : t.len ≤ RECORDS) (s : ℕ) (source : s ≡ source_of (frame_of t) L) (y : Bool) (early : y ≡ reads_first (frame_of t) L) where
    abbrev Second : Rel
    Second = Only (ltb s RECORDS && not ((frame_of t).earlier s L)) s L

    abbrev Fourth : Rel
    Fourth i j = So y × (i ≡ L) × Edges o 0 j

    abbrev Earlier : Rel
    Earlier = Union L (PassedBy (frame_of t) o y s L)

    abbrev Turn : ℕ → Rel
    Turn S i j = So (writer? (frame_of t) S L) × Valued ((frame_of t).earlier S L) y s S L i j

    source-writes : s < RECORDS → So (writer? (frame_of t) s L)
    source-writes h = rw source ((writer-iff (frame_of t) (source_of (frame_of t) L) L).1 (source-of-is (frame_of t) L (rw source at h)).writer)

    there : (i j : ℕ) → Second i j ⊎ (Fourth i j ⊎ Earlier i j) → Union t.len Turn i j
    unfolding Union
    there i j (inl u) =
        let p = (and-iff (so-lt {m = s} {n = RECORDS}) (same-iff {a = not ((frame_of t).earlier s L)})).0 u.0 in
        let w = source-writes p.0 in
        (s, writer-below s w, (w, second ((and-iff (so-eq {m = s} {n = s}) (same-iff {a = not ((frame_of t).earlier s L)})).1 (refl, p.1), u.1, u.2)))
    there i j (inr (inl u)) = let w = (is j).0 u.2 in (j, writer-below j w, (w, fourth (u.0, u.1, refl)))
    there i j (inr (inr u)) =
        let S = u.0 in
        let w = (is S).0 u.2.0.0 in
        let e = u.2.0.1 in (
          S,
          writer-below S w,
          (
            w,
            elim u.2.1 [
              | inl v ↦ third ((and-iff (same-iff {a = ltb s RECORDS && not (eqb S s)}) (same-iff {a = (frame_of t).earlier S L})).1 (v.0, e), v.1, v.2)
              | inr v ↦ fifth ((and-iff (same-iff {a = y}) (same-iff {a = (frame_of t).earlier S L})).1 (v.0, e), v.1, v.2)
            ],
          ),
        )

    back_at : (S i j : ℕ) → S < t.len → So (writer? (frame_of t) S L) → Valued ((frame_of t).earlier S L) y s S L i j → Second i j ⊎ (Fourth i j ⊎ Earlier i j)
    unfolding Union
    back_at S i j h w (second v) =
        let p = (and-iff (so-eq {m = S} {n = s}) (same-iff {a = not ((frame_of t).earlier S L)})).0 v.0 in
        inl ((and-iff (so-lt {m = s} {n = RECORDS}) (same-iff {a = not ((frame_of t).earlier s L)})).1 (omega (arith, p.0), rw p.0 at p.1), v.1 ∙ p.0, v.2)
    back_at S i j h w (third v) =
        let p = (and-iff (same-iff {a = ltb s RECORDS && not (eqb S s)}) (same-iff {a = (frame_of t).earlier S L})).0 v.0 in
        inr (inr (S, ((earlier-iff t S L).0 p.1).0, (((is S).1 w, p.1), inl (p.0, v.1, v.2))))
    back_at S i j h w (fourth v) = inr (inl (v.0, v.1, rw v.2 ((is S).1 w)))
    back_at S i j h w (fifth v) =
        let p = (and-iff (same-iff {a = y}) (same-iff {a = (frame_of t).earlier S L})).0 v.0 in
        inr (inr (S, ((earlier-iff t S L).0 p.1).0, (((is S).1 w, p.1), inr (p.0, v.1, v.2))))

    back : (i j : ℕ) → Union t.len Turn i j → Second i j ⊎ (Fourth i j ⊎ Earlier i j)
    unfolding Union
    back i j u = back_at u.0 i j u.1 u.2.0 u.2.1

    pub valued-all : {a b c d : List ℕ}
        → Added a (Only (ltb s RECORDS && not ((frame_of t).earlier s L)) s L) b
        → Added b (λ i j. So y × (i ≡ L) × Edges o 0 j) c
        → Added c (Union L (PassedBy (frame_of t) o y s L)) d
        → Added a (Union t.len (ValuedFor (frame_of t) L)) d
    valued-all {a} {b} {c} {d} p q r =
        let all : Added a (Union t.len (λ S i j. So (writer? (frame_of t) S L) × Valued ((frame_of t).earlier S L) y s S L i j)) d = adds-as (Union t.len Turn) (adds-or p (adds-or q r)) (λ i j. (there i j, back i j)) in
        rw (source, early) at all

pub loaded-none : (f : Frame) (n : ℕ) (s w e : List ℕ) → length s ≡ RECORDS → Loaded f n 0 s w w e e
loaded-none f n s w e l = record { long = l; sources = λ L h. absurd (omega arith); writers = union-none _ w; edges = union-none _ e }

module _ (f : Frame) (n k : ℕ) (s w₀ w e₀ e : List ℕ) (src : get_or s k 0 ≡ source_of f k) (l : Loaded f n k s w₀ w e₀ e) where
  pub loaded-more : (w' e' : List ℕ) → So (f.reads k) → Added w (Union n (λ S. Only (writer? f S k) k S)) w' → Added e (Union n (ValuedFor f k)) e'
      → Loaded f n (k + 1) s w₀ w' e₀ e'
  loaded-more w' e' r p q = record {
    long = l.long;
    sources = below_more _ k l.sources src;
    writers = union_more _ k l.writers (adds-as _ p (λ x y. (λ u. (r, u), λ u. u.1)));
    edges = union_more _ k l.edges (adds-as _ q (λ x y. (λ u. (r, u), λ u. u.1)));
  }

  pub loaded-skip : f.reads k ≡ false → Loaded f n (k + 1) s w₀ w e₀ e
  loaded-skip r = record {
    long = l.long;
    sources = below_more _ k l.sources src;
    writers = union-skip _ k l.writers (λ x y u. false≢true (sym r ∙ u.0));
    edges = union-skip _ k l.edges (λ x y u. false≢true (sym r ∙ u.0));
  }

pub settled_at : (h : List ℕ) (S L z : ℕ) (k₆ k₇ : Bool) → k₆ ≡ bit h z L → k₇ ≡ bit h S z → {a b c : List ℕ}
    → Added a (Only k₆ z S) b → Added b (Only k₇ L z) c → Added a (Settled h S L z) c
settled_at h S L z k₆ k₇ e₆ e₇ {a} {b} {c} p q =
    let p' : Added a (Only (bit h z L) z S) b = adds-only k₆ (bit h z L) e₆ p in
    let q' : Added b (Only (bit h S z) L z) c = adds-only k₇ (bit h S z) e₇ q in
    adds-as (Settled h S L z) (adds-or p' q') (λ x y. (there x y, back x y))
  where
    there : (x y : ℕ) → Only (bit h z L) z S x y ⊎ Only (bit h S z) L z x y → Settled h S L z x y
    there x y (inl o) = sixth o
    there x y (inr o) = seventh o

    back : (x y : ℕ) → Settled h S L z x y → Only (bit h z L) z S x y ⊎ Only (bit h S z) L z x y
    back x y (sixth o) = inl o
    back x y (seventh o) = inr o

module _ (w c : List ℕ) (S L z : ℕ) where
  -- the two tests of a turn
  pub turned : So (bit w L z && not (eqb z S)) ↔ (So (bit w L z) × (z ≡ S → ⊥))
  turned = and-iff same-iff (not_iff so-eq)

  pub settled-by : So (bit w L z) → (z ≡ S → ⊥) → {a b : List ℕ} → Added a (Settled c S L z) b → Added a (SettledBy w c S L z) b
  settled-by there d p = adds-as (SettledBy w c S L z) p (λ i j. (λ v. (turned.1 (there, d), v), λ v. v.1))

  pub settled-other : z ≡ S → (i j : ℕ) → SettledBy w c S L z i j → ⊥
  settled-other e i j v = (turned.0 v.0).1 e

  pub settled-none : (So (bit w L z) → ⊥) → (i j : ℕ) → SettledBy w c S L z i j → ⊥
  settled-none n i j v = n (turned.0 v.0).0

-- a walk along a row: what is below z and in the row has been passed
pub next-seen : {P : ℕ → Type 0} {m : ℕ} (row : List ℕ) (z r : ℕ) → ((x : ℕ) → x < z → So (bit row m x) → P x) → (So (bit row m z) → P z) → NextInRow row m (z + 1) r → (x : ℕ) → x < r → So (bit row m x) → P x
next-seen row z r seen here n x h t = elim (eq? x z) [
  | inl e ↦ rw e (here (rw e at t))
  | inr d ↦ elim (lt_or_ge x z) [ inl b ↦ seen x b t | inr b ↦ absurd (n.skips x (omega arith) h t) ]
]
  where
    lt_or_ge : (x z : ℕ) → (x < z) ⊎ (z ≤ x)
    lt_or_ge x z = elim (dec_lt x z) [ yes b ↦ inl b | no b ↦ inr (omega arith) ]

pub next-on : (rows : List ℕ) (r x x' : ℕ) → NextInRow rows r (x + 1) x' → x < RECORDS → x < x'
next-on rows r x x' n h = elim n.there [ inl u ↦ omega (arith, u.0) | inr e ↦ omega arith ]

pub next-at : (rows : List ℕ) (r x x' : ℕ) → NextInRow rows r x x' → So (bit rows r x') ⊎ (x' ≡ RECORDS)
next-at rows r x x' n = elim n.there [ inl u ↦ inl u.1 | inr e ↦ inr e ]

pub stored : (t : Trace) (s e : List ℕ) → s ≡ empty_of CELLS → Added s (Union t.len (λ x. Only ((frame_of t).writes x) ((frame_of t).address x) x)) e → (a : ℕ) → Stored (frame_of t) e a
unfolding Union frame_of
stored t s e none p a x = (
  λ b. elim ((p.pairs a x).0 b) [
    | inl c ↦ absurd (false≢true (sym (empty-bit CELLS a x) ∙ (rw none at c)))
    | inr u ↦ let o = u.2 in rw (o.2, o.1) (o.0, refl)
  ],
  λ q. (p.pairs a x).1 (inr (x, ((and-iff (so-lt {m = x} {n = t.len}) (same-iff {a = writes (at t x)})).0 q.0).0, (q.0, sym q.1, refl))),
)

-- the records that are noted by the load's address, but for the load, are its writers
pub others-writers : (f : Frame) (s : List ℕ) (L a : ℕ) → a ≡ f.address L → Stored f s (f.address L) → (o : List ℕ) → ((y : ℕ) → Edges o 0 y ↔ (Edges s a y × (y ≡ L → ⊥)))
    → (x : ℕ) → Edges o 0 x ↔ So (writer? f x L)
others-writers f s L a same is o less x = (
  λ b.
      let u = (less x).0 b in
      let w = (is x).0 (rw same at u.0) in
      (writer-iff f x L).1 record { writes = w.0; same = w.1; other = u.1 },
  λ t. let w = (writer-iff f x L).0 t in (less x).1 (rw same ((is x).1 (w.writes, w.same)), w.other),
)
