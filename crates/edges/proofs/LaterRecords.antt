-- The kept pairs drawn a row at a time, from the last record of a trace to its first.
--
--   from_empty                            == what is added to rows with no pair is all that they have
--   put-added                             == one number more in a row
--   filed-none, filed-more                == numbers filed in rows: none, and one more
--   kind-small                            == a record is of some kind
--   off-none, off-more                    == what is let off after a kind, kind by kind: where the model keeps the two, and where not
--   off-row                               == the row of what is let off after one record
--   kept_row                              == the row of one record, drawn where it was empty
--   later-none, rows_none                 == past the last record nothing is later, and no row is drawn
--   later-fence, behind-fence, rows-fence == one record further down, a fence: the later ones, those behind a fence, the rows drawn
--   later_more, behind_more, rows_more    == likewise, an operation
--   undrawn                               == its row is empty yet
--   all-drawn                             == when all records are gone over, all rows are drawn
--   kept_there                            == what is kept at two addresses is kept at one
--   drawn-kept                            == what is drawn is what the model keeps
use mathlib.Core.Path.{◌≡◌, refl, sym, ap, ◌∙◌, subst}
use mathlib.Core.Logic.{◌↔◌, ◌⊎◌, inl, inr}
use mathlib.Core.Bool.{Bool, true, false, So, not, false≢true}
use mathlib.Core.List.{List}
use Prim.Native.Nat.{ℕ, ◌+◌, ◌*◌, ◌<◌, ◌≤◌}
use native.Mathlib.Omega.{arith}
use lib.Dec.{eqb}
use lib.ListN.{length}
use Rattle.laws.specs.Relation.{Rel}
use Rattle.laws.proofs.Tests.{off, test, so-not, so-eq, eq?}
use Rattle.trace.specs.Bounds.{RECORDS}
use Rattle.trace.specs.Op.{thread, address, fence}
use Rattle.trace.specs.Trace.{at}
use Rattle.trace.specs.Meaning.{frame_of}
use Rattle.trace.specs.declared.Op.{Op}
use Rattle.trace.specs.declared.Op.TheVariants.{Load, Store, Swap, Fence}
use Rattle.trace.specs.declared.Trace.{Trace}
use Rattle.trace.proofs.Meaning.{operation-iff}
use Rattle.rows.specs.Bounds.{WORDS, CELLS}
use Rattle.rows.specs.Rows.{place, bit, Edges, Words}
use Rattle.rows.specs.Empty.{empty_of}
use Rattle.rows.specs.Put.{put_of}
use Rattle.rows.specs.AddRow.{add_row_of}
use Rattle.rows.specs.DropRow.{drop_row_of}
use Rattle.rows.specs.inner.AddedPairs.{Added}
use Rattle.rows.proofs.Whole.{empty-bit, empty-long, empty-words}
use Rattle.rows.proofs.Pair.{put_in, put-long, put-words, mark-iff}
use Rattle.rows.proofs.Closing.{row-added}
use Rattle.rows.proofs.Dropping.{row-dropped, drop-long, drop-words}
use Rattle.pairs.specs.Kept.{modelled, kind_of, kept_by, kept_of}
use Rattle.pairs.proofs.KeptPairs.{Off, kept-by-iff, modelled-iff, earlier-iff, fenced-iff, kept-of-iff}
use Rattle.edges.specs.inner.PairSets.{Union, Cover}
use Rattle.edges.specs.inner.LaterRecords.{KINDS, SHELF, Filed, OffRow, OffFor, Later, LaterFenced, KeptRow, DrawnRows, DrawnFrom}
use Rattle.edges.proofs.PairSets.{adds_none, adds-as, adds_then, union_more, union-skip}

pub from_empty : (n : ℕ) (R : Rel) (r : List ℕ) → Added (empty_of n) R r → (i j : ℕ) → So (bit r i j) ↔ R i j
from_empty n R r a i j = (λ s. elim ((a.pairs i j).0 s) [ inl e ↦ absurd (false≢true (sym (empty-bit n i j) ∙ e)) | inr u ↦ u ], λ u. (a.pairs i j).1 (inr u))

-- Records by kind and by address ------------------------------------------------------------------------------------------------------------

-- one number more in a row of rows that reach that far
pub put-added : (r : List ℕ) (x y : ℕ) → x < RECORDS → y < RECORDS → place x y < length r → Added r (λ i j. (i ≡ x) × (j ≡ y)) (put_of r x y)
put-added r x y hx hy l = record { long = put-long r x y; words = put-words r x y; pairs = λ i j. rw (put_in r x y hx hy) (mark-iff r x y hx hy l i j) }

pub filed-none : (f : ℕ → ℕ) (r : List ℕ) → Added r (Filed 0 f) r
filed-none f r = adds_none r (Filed 0 f) (λ i j u. omega (arith, u.0))

pub filed-more : (f : ℕ → ℕ) (n v : ℕ) → v ≡ f n → v < RECORDS → n < RECORDS → {a b c : List ℕ} → Added a (Filed n f) b → place v n < length b → c ≡ put_of b v n → Added a (Filed (n + 1) f) c
filed-more f n v e hv hn {a} {b} {c} p room q = rw q (adds_then (Filed (n + 1) f) p (put-added b v n hv hn room) (λ i j. (there i j, back i j)))
  where
    there : (i j : ℕ) → Filed n f i j ⊎ ((i ≡ v) × (j ≡ n)) → Filed (n + 1) f i j
    there i j (inl u) = (omega (arith, u.0), u.1)
    there i j (inr u) = (omega (arith, u.1), u.0 ∙ e ∙ ap f (sym u.1))

    back : (i j : ℕ) → Filed (n + 1) f i j → Filed n f i j ⊎ ((i ≡ v) × (j ≡ n))
    back i j u = elim (eq? j n) [ inl d ↦ inr (u.1 ∙ ap f d ∙ sym e, d) | inr d ↦ inl (omega (arith, u.0), u.1) ]

pub kind-small : (o : Op) → kind_of o < KINDS
kind-small (Load t a r) = omega arith
kind-small (Store t a w) = omega arith
kind-small (Swap t a r w) = omega arith
kind-small (Fence t) = omega arith

-- What is let off --------------------------------------------------------------------------------------------------------------------------

module _ (m : ℕ) (one : Bool) (k : List ℕ) (a b : ℕ) where
  pub off-none : {d e : List ℕ} → Added d (Union b (OffRow m one k a)) e → So (kept_by m a b one) → Added d (Union (b + 1) (OffRow m one k a)) e
  off-none p s = union-skip _ b p (λ i j u. so-not.0 u.0 s)

  pub off-more : Words k → a < RECORDS → {d e g : List ℕ} → Added d (Union b (OffRow m one k a)) e → a * WORDS + WORDS ≤ length e → kept_by m a b one ≡ false → g ≡ add_row_of k b e a
      → Added d (Union (b + 1) (OffRow m one k a)) g
  off-more words h {d} {e} {g} p room n q =
      let s : So (not (kept_by m a b one)) = so-not.1 (λ s. false≢true (sym n ∙ s)) in
      union_more _ b p (rw q (adds-as (OffRow m one k a b) (row-added k words b e a h room) (λ i j. (λ u. (s, u.0, u.1), λ u. (u.1, u.2)))))

module _ (e h p : List ℕ) (we : Words e) (wh : Words h) (wp : Words p) (a v : ℕ) (q r s : List ℕ) (eq : q ≡ add_row_of e a (empty_of WORDS) 0) (er : r ≡ drop_row_of p v q 0) (es : s ≡ add_row_of h a r 0) where
  one-row : Added (empty_of WORDS) (λ i j. (i ≡ 0) × Edges e a j) q
  one-row = rw eq (row-added e we a (empty_of WORDS) 0 (omega arith) (omega (arith, empty-long WORDS)))

  long : length q ≡ WORDS
  long = one-row.long ∙ empty-long WORDS

  left : length r ≡ WORDS
  left = rw er (drop-long p v q 0 (omega arith) (omega (arith, long)) ∙ long)

  less : (j : ℕ) → So (bit r 0 j) ↔ (Edges e a j × (Edges p v j → ⊥))
  less j =
      let d = row-dropped p v q 0 (omega arith) (omega (arith, long)) 0 j in
      let g = from_empty WORDS _ q one-row 0 j in
      rw er (λ t. let u = d.0 t in ((g.0 u.0).1, λ o. u.1 (refl, o)), λ u. d.1 (g.1 (refl, u.0), λ o. u.1 o.1))

  more : Added r (λ i j. (i ≡ 0) × Edges h a j) s
  more = rw es (row-added h wh a r 0 (omega arith) (omega (arith, left)))

  pub off-row : Words s × ((y : ℕ) → So (bit s 0 y) ↔ OffFor e h p a v y)
  off-row = (
    more.words (rw er (drop-words p wp v q (one-row.words (empty-words WORDS)) 0)),
    λ y. (
      λ t. elim ((more.pairs 0 y).0 t) [ inl u ↦ inr ((less y).0 u) | inr u ↦ inl u.1 ],
      λ o. (more.pairs 0 y).1 (elim o [ inl u ↦ inr (refl, u) | inr u ↦ inl ((less y).1 u) ]),
    ),
  )

-- The row of one record --------------------------------------------------------------------------------------------------------------------

module _ (l b o : List ℕ) (wl : Words l) (wb : Words b) (wo : Words o) (c x : ℕ) (hx : x < RECORDS) (d e f g : List ℕ) (long : length d ≡ CELLS) (bare : (y : ℕ) → Edges d x y → ⊥)
    (pe : e ≡ add_row_of l c d x) (pf : f ≡ drop_row_of o 0 e x) (pg : g ≡ add_row_of b c f x) where
  first : Added d (λ i j. (i ≡ x) × Edges l c j) e
  first = rw pe (row-added l wl c d x hx (omega (arith, hx, long)))

  room : x * WORDS + WORDS ≤ length e
  room = omega (arith, hx, long, first.long)

  second : (i j : ℕ) → So (bit f i j) ↔ (Edges e i j × ((i ≡ x) × Edges o 0 j → ⊥))
  second i j = rw pf (row-dropped o 0 e x hx room i j)

  same : length f ≡ length e
  same = rw pf (drop-long o 0 e x hx room)

  third : Added f (λ i j. (i ≡ x) × Edges b c j) g
  third = rw pg (row-added b wb c f x hx (omega (arith, room, same)))

  pub kept_row : Added d (KeptRow l b o c x) g
  kept_row = record {
    long = third.long ∙ same ∙ first.long;
    words = λ w. third.words (rw pf (drop-words o wo 0 e (first.words w) x));
    pairs = λ i j. (there i j, back i j);
  }
    where
      there : (i j : ℕ) → So (bit g i j) → Edges d i j ⊎ KeptRow l b o c x i j
      there i j t = elim ((third.pairs i j).0 t) [
        | inl u ↦
            let v = (second i j).0 u in
            elim ((first.pairs i j).0 v.0) [ inl w ↦ inl w | inr w ↦ inr (w.0, inl (w.1, λ n. v.1 (w.0, n))) ]
        | inr u ↦ inr (u.0, inr u.1)
      ]

      back : (i j : ℕ) → Edges d i j ⊎ KeptRow l b o c x i j → So (bit g i j)
      back i j (inl u) = (third.pairs i j).1 (inl ((second i j).1 ((first.pairs i j).1 (inl u), λ n. bare j (subst (λ (i : ℕ). Edges d i j) n.0 u))))
      back i j (inr (e, inl u)) = (third.pairs i j).1 (inl ((second i j).1 ((first.pairs i j).1 (inr (e, u.0)), λ n. u.1 n.1)))
      back i j (inr (e, inr u)) = (third.pairs i j).1 (inr (e, u))

-- From the last record to the first --------------------------------------------------------------------------------------------------------

pub later-none : (t : Trace) (d : List ℕ) → Added d (Later t t.len) d × Added d (LaterFenced t t.len) d
later-none t d = (
  adds_none d (Later t t.len) (λ c y u. past c y u),
  adds_none d (LaterFenced t t.len) (λ c y u. past c y u.0),
)
  where
    past : (c y : ℕ) → Later t t.len c y → ⊥
    past c y u = omega (arith, u.0, ((operation-iff t y).0 u.1).0)

pub rows_none : (t : Trace) (e h p d : List ℕ) → Added d (DrawnFrom t e h p t.len) d
rows_none t e h p d = adds_none d (DrawnFrom t e h p t.len) (λ i j u. omega (arith, u.0, ((operation-iff t i).0 u.1.0).0))

pub all-drawn : (t : Trace) (e h p : List ℕ) {d r : List ℕ} → Added d (DrawnFrom t e h p 0) r → Added d (DrawnRows t e h p) r
all-drawn t e h p a = adds-as (DrawnRows t e h p) a (λ i j. (λ u. u.1, λ u. (omega arith, u)))

module _ (t : Trace) (k x : ℕ) (next : k ≡ x + 1) where
  -- what is later stays so
  later-on : (c y : ℕ) → Later t k c y → Later t x c y
  later-on c y u = (omega (arith, u.0), u.1, u.2)

  -- what is behind a fence further on
  later-behind : (c y : ℕ) → LaterFenced t k c y → LaterFenced t x c y
  later-behind c y u = let f = u.1 in (later-on c y u.0, (f.0, omega (arith, f.1), f.2, f.3, f.4))

  -- what is later than a record that is passed is later than x or x itself
  later-at : (c y : ℕ) → Later t x c y → Later t k c y ⊎ (y ≡ x)
  later-at c y u = elim (eq? y x) [ inl e ↦ inr e | inr d ↦ inl (omega (arith, u.0), u.1, u.2) ]

  module _ (is : So (fence (at t x))) where
    -- a fence is no operation
    other : So ((frame_of t).operation x) → ⊥
    other o = so-not.0 ((operation-iff t x).0 o).1 is

    pub later-fence : {d l : List ℕ} → Added d (Later t k) l → Added d (Later t x) l
    later-fence p = adds-as (Later t x) p (λ c y. (later-on c y, λ u. elim (later-at c y u) [ inl v ↦ v | inr e ↦ absurd (other (rw e at u.1)) ]))

    pub behind-fence : (n : ℕ) (l : List ℕ) → Added (empty_of n) (Later t k) l → (v : ℕ) → v ≡ thread (at t x) → v < RECORDS → {d b g : List ℕ} → Added d (LaterFenced t k) b → v * WORDS + WORDS ≤ length b
        → g ≡ add_row_of l v b v → Added d (LaterFenced t x) g
    behind-fence n l p v e hv {d} {b} {g} q room r =
        rw r (adds_then (LaterFenced t x) q (row-added l (p.words (empty-words n)) v b v hv room) (λ c y. (there c y, back c y)))
      where
        there : (c y : ℕ) → LaterFenced t k c y ⊎ ((c ≡ v) × Edges l v y) → LaterFenced t x c y
        there c y (inl u) = later-behind c y u
        there c y (inr u) =
            let w = (from_empty n (Later t k) l p v y).0 u.1 in
            ((omega (arith, w.0), w.1, w.2 ∙ sym u.0), (x, omega arith, omega (arith, w.0), is, sym e ∙ sym u.0))

        back : (c y : ℕ) → LaterFenced t x c y → LaterFenced t k c y ⊎ ((c ≡ v) × Edges l v y)
        back c y u =
            let w = u.0 in
            let f = u.1 in
            elim (eq? f.0 x) [
              | inl d ↦
                  let own : c ≡ v = sym f.4 ∙ ap (λ (i : ℕ). thread (at t i)) d ∙ sym e in
                  inr (own, (from_empty n (Later t k) l p v y).1 (omega (arith, f.2), w.1, w.2 ∙ own))
              | inr d ↦ inl ((omega (arith, f.1, f.2), w.1, w.2), (f.0, omega (arith, f.1), f.2, f.3, f.4))
            ]

    pub rows-fence : (e h p : List ℕ) {d r : List ℕ} → Added d (DrawnFrom t e h p k) r → Added d (DrawnFrom t e h p x) r
    rows-fence e h p a = adds-as (DrawnFrom t e h p x) a (λ i j. (
      λ u. (omega (arith, u.0), u.1),
      λ u. elim (eq? i x) [ inl d ↦ absurd (other (subst (λ (i : ℕ). So ((frame_of t).operation i)) d u.1.0)) | inr d ↦ (omega (arith, u.0), u.1) ],
    ))

  module _ (is : So ((frame_of t).operation x)) where
    pub later_more : (v : ℕ) → v ≡ thread (at t x) → v < RECORDS → x < RECORDS → {d l g : List ℕ} → Added d (Later t k) l → place v x < length l → g ≡ put_of l v x → Added d (Later t x) g
    later_more v e hv hx {d} {l} {g} p room q = rw q (adds_then (Later t x) p (put-added l v x hv hx room) (λ c y. (there c y, back c y)))
      where
        there : (c y : ℕ) → Later t k c y ⊎ ((c ≡ v) × (y ≡ x)) → Later t x c y
        there c y (inl u) = later-on c y u
        there c y (inr u) = (omega (arith, u.1), subst (λ (y : ℕ). So ((frame_of t).operation y)) (sym u.1) is, ap (λ (y : ℕ). thread (at t y)) u.1 ∙ sym e ∙ sym u.0)

        back : (c y : ℕ) → Later t x c y → Later t k c y ⊎ ((c ≡ v) × (y ≡ x))
        back c y u = elim (later-at c y u) [ inl w ↦ inl w | inr d ↦ inr (sym u.2 ∙ ap (λ (y : ℕ). thread (at t y)) d ∙ sym e, d) ]

    pub behind_more : {d b : List ℕ} → Added d (LaterFenced t k) b → Added d (LaterFenced t x) b
    behind_more q = adds-as (LaterFenced t x) q (λ c y. (later-behind c y, back c y))
      where
        back : (c y : ℕ) → LaterFenced t x c y → LaterFenced t k c y
        back c y u =
            let w = u.0 in
            let f = u.1 in
            elim (eq? f.0 x) [
              | inl d ↦ absurd (so-not.0 ((operation-iff t x).0 is).1 (subst (λ (i : ℕ). So (fence (at t i))) d f.3))
              | inr d ↦ ((omega (arith, f.1, f.2), w.1, w.2), (f.0, omega (arith, f.1), f.2, f.3, f.4))
            ]

    module _ (n : ℕ) (l b o e h p : List ℕ) (pl : Added (empty_of n) (Later t k) l) (pb : Added (empty_of n) (LaterFenced t k) b) (v a w : ℕ) (ev : v ≡ thread (at t x)) (ea : a ≡ kind_of (at t x)) (ew : w ≡ address (at t x))
        (po : (y : ℕ) → So (bit o 0 y) ↔ OffFor e h p a w y) where
      -- the row that is drawn is that of x
      row_is : (j : ℕ) → ((Edges l v j × (Edges o 0 j → ⊥)) ⊎ Edges b v j) ↔ DrawnRows t e h p x j
      row_is j = (there, back)
        where
          up : (c y : ℕ) → Later t k c y ↔ Later t (x + 1) c y
          up c y = rw next ((λ u. u), (λ u. u))

          upper : (c y : ℕ) → LaterFenced t k c y ↔ LaterFenced t (x + 1) c y
          upper c y = rw next ((λ u. u), (λ u. u))

          offs : So (bit o 0 j) ↔ OffFor e h p (kind_of (at t x)) (address (at t x)) j
          offs = rw (sym ea, sym ew) (po j)

          there : (Edges l v j × (Edges o 0 j → ⊥)) ⊎ Edges b v j → DrawnRows t e h p x j
          there (inl u) = (is, inl ((up _ j).0 (rw ev at ((from_empty n (Later t k) l pl v j).0 u.0)), λ q. u.1 (offs.1 q)))
          there (inr u) = (is, inr ((upper _ j).0 (rw ev at ((from_empty n (LaterFenced t k) b pb v j).0 u))))

          back : DrawnRows t e h p x j → (Edges l v j × (Edges o 0 j → ⊥)) ⊎ Edges b v j
          back u = elim u.1 [
            | inl q ↦ inl (rw ev ((from_empty n (Later t k) l pl (thread (at t x)) j).1 ((up _ j).1 q.0)), λ s. q.1 (offs.0 s))
            | inr q ↦ inr (rw ev ((from_empty n (LaterFenced t k) b pb (thread (at t x)) j).1 ((upper _ j).1 q)))
          ]

      pub rows_more : {d r g : List ℕ} → Added d (DrawnFrom t e h p k) r → Added r (KeptRow l b o v x) g → Added d (DrawnFrom t e h p x) g
      rows_more q s = adds_then (DrawnFrom t e h p x) q s (λ i j. (there i j, back i j))
        where
          there : (i j : ℕ) → DrawnFrom t e h p k i j ⊎ KeptRow l b o v x i j → DrawnFrom t e h p x i j
          there i j (inl u) = (omega (arith, u.0), u.1)
          there i j (inr u) = (omega (arith, u.0), subst (λ (i : ℕ). DrawnRows t e h p i j) (sym u.0) ((row_is j).0 u.1))

          back : (i j : ℕ) → DrawnFrom t e h p x i j → DrawnFrom t e h p k i j ⊎ KeptRow l b o v x i j
          back i j u = elim (eq? i x) [
            | inl d ↦ inr (d, (row_is j).1 (subst (λ (i : ℕ). DrawnRows t e h p i j) d u.1))
            | inr d ↦ inl (omega (arith, u.0), u.1)
          ]

  pub undrawn : (n : ℕ) (e h p d r : List ℕ) → d ≡ empty_of n → Added d (DrawnFrom t e h p k) r → (y : ℕ) → Edges r x y → ⊥
  undrawn n e h p d r z q y s = elim ((q.pairs x y).0 s) [
    | inl u ↦ false≢true (sym (ap (λ (r : List ℕ). bit r x y) z ∙ empty-bit n x y) ∙ u)
    | inr u ↦ omega (arith, u.0)
  ]

-- What is drawn is what the model keeps ----------------------------------------------------------------------------------------------------

pub kept_there : (m a b : ℕ) (one : Bool) → So (kept_by m a b one) → So (kept_by m a b true)
kept_there m a b true s = s
kept_there m a b false s = let p = (kept-by-iff m a b false).0 s in (kept-by-iff m a b true).1 (p.0, λ o. p.1 (apart o))
  where
    apart : Off m a b true → Off m a b false
    apart (inl (inl o)) = inl (inl o)
    apart (inl (inr o)) = absurd (false≢true o.1)
    apart (inr o) = absurd (false≢true o.1)

module _ (t : Trace) (m : ℕ) (k : List ℕ) (pk : Added (empty_of SHELF) (Filed t.len (λ y. kind_of (at t y))) k) where
  -- what is let off after a kind
  off-iff : (one : Bool) (e : List ℕ) → Added (empty_of SHELF) (Cover KINDS (OffRow m one k)) e → (a y : ℕ) → a < KINDS → So (bit e a y) ↔ ((y < t.len) × So (not (kept_by m a (kind_of (at t y)) one)))
  unfolding Union
  off-iff one e pe a y h = (
    λ s.
        let u = (from_empty SHELF (Cover KINDS (OffRow m one k)) e pe a y).0 s in
        let v = u.2 in
        let o = v.2 in
        let f = (from_empty SHELF (Filed t.len (λ y. kind_of (at t y))) k pk v.0 y).0 o.2 in
        (f.0, rw (o.1, sym f.1) o.0),
    λ u. (from_empty SHELF (Cover KINDS (OffRow m one k)) e pe a y).1 (a, h, (kind_of (at t y), kind-small (at t y), (u.1, refl, (from_empty SHELF (Filed t.len (λ y. kind_of (at t y))) k pk (kind_of (at t y)) y).1 (u.0, refl)))),
  )

  module _ (e h p : List ℕ) (pe : Added (empty_of SHELF) (Cover KINDS (OffRow m false k)) e) (ph : Added (empty_of SHELF) (Cover KINDS (OffRow m true k)) h)
      (pp : Added (empty_of CELLS) (Filed t.len (λ y. address (at t y))) p) (x y : ℕ) where
    abbrev kept? : Bool → Bool
    kept? = kept_by m (kind_of (at t x)) (kind_of (at t y))

    abbrev Let : Type 0
    Let = OffFor e h p (kind_of (at t x)) (address (at t x)) y

    -- at two addresses, and at one
    far : So (bit e (kind_of (at t x)) y) ↔ ((y < t.len) × So (not (kept? false)))
    far = off-iff false e pe (kind_of (at t x)) y (kind-small (at t x))

    near : So (bit h (kind_of (at t x)) y) ↔ ((y < t.len) × So (not (kept? true)))
    near = off-iff true h ph (kind_of (at t x)) y (kind-small (at t x))

    beside : So (bit p (address (at t x)) y) ↔ ((y < t.len) × (address (at t x) ≡ address (at t y)))
    beside = from_empty CELLS (Filed t.len (λ y. address (at t y))) p pp (address (at t x)) y

    -- what is not let off is kept
    stays : y < t.len → (Let → ⊥) → So (kept? (eqb (address (at t x)) (address (at t y))))
    stays hy n = elim (eq? (address (at t x)) (address (at t y))) [
      | inl d ↦ elim (test (kept? true)) [
        | inl s ↦ rw ((so-eq {m = address (at t x)} {n = address (at t y)}).1 d) s
        | inr f ↦ absurd (n (inl (near.1 (hy, so-not.1 (λ s. false≢true (sym f ∙ s))))))
      ]
      | inr d ↦ elim (test (kept? false)) [
        | inl s ↦ rw (off {b = eqb (address (at t x)) (address (at t y))} (λ q. d (so-eq.0 q))) s
        | inr f ↦ absurd (n (inr (far.1 (hy, so-not.1 (λ s. false≢true (sym f ∙ s))), λ q. d (beside.0 q).1)))
      ]
    ]

    -- what is kept is not let off
    held : y < t.len → So (kept? (eqb (address (at t x)) (address (at t y)))) → Let → ⊥
    held hy s (inl u) = so-not.0 (near.0 u).1 (kept_there m (kind_of (at t x)) (kind_of (at t y)) (eqb (address (at t x)) (address (at t y))) s)
    held hy s (inr u) =
        let two : eqb (address (at t x)) (address (at t y)) ≡ false = off (λ q. u.1 (beside.1 (hy, so-eq.0 q))) in
        so-not.0 (far.0 u.0).1 (rw two at s)

    pub drawn-kept : So (modelled m) → DrawnRows t e h p x y ↔ So (kept_of m t x y)
    drawn-kept model = (there, back)
      where
        pair : So ((frame_of t).operation x) → Later t (x + 1) (thread (at t x)) y → ((So ((frame_of t).earlier x y) × So ((frame_of t).operation x)) × So ((frame_of t).operation y))
        pair o l = (((earlier-iff t x y).1 (omega (arith, l.0), sym l.2), o), l.1)

        there : DrawnRows t e h p x y → So (kept_of m t x y)
        there (o, inl u) = (kept-of-iff t x y m).1 ((pair o u.0, (modelled-iff m).0 model), inl (stays ((operation-iff t y).0 u.0.1).0 u.1))
        there (o, inr u) =
            let f = u.1 in
            (kept-of-iff t x y m).1 ((pair o u.0, (modelled-iff m).0 model), inr ((fenced-iff t x y).1 (f.0, f.2, ((f.3, omega (arith, f.1)), f.4))))

        back : So (kept_of m t x y) → DrawnRows t e h p x y
        back s =
            let q = (kept-of-iff t x y m).0 s in
            let o = q.0.0.0.1 in
            let l = (earlier-iff t x y).0 q.0.0.0.0 in
            let late : Later t (x + 1) (thread (at t x)) y = (omega (arith, l.0), q.0.0.1, sym l.1) in (
              o,
              elim q.1 [
                | inl b ↦ inl (late, held ((operation-iff t y).0 q.0.0.1).0 b)
                | inr b ↦ let f = (fenced-iff t x y).0 b in inr (late, (f.0, omega (arith, f.2.0.1), f.1, f.2.0.0, f.2.1))
              ],
            )
