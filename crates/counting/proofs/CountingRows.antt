-- The tables are laid, and the search begins.
--
--   among_none, among-more, among-all == a set that is filled record by record: no record yet, one more, all
--   up_to f k               == how many operations there are below k
--   up_none, up-yes, up-no  == no record yet, and one more that is an operation or is none
--   kept_at, feeds-at       == the tests of a pair, as a loop reads them off two records
--   filled, filled-back     == rows to which every pair that passes was added, in row x or in row y
--   laid                    == the tables are laid
--   stands-none, right-none == nothing is placed; an empty memory is right
use mathlib.Core.Path.{◌≡◌, refl, sym, ap, ◌∙◌, subst}
use mathlib.Core.Logic.{◌⊎◌, inl, inr, ◌↔◌}
use mathlib.Core.Bool.{Bool, true, false, So, not, cond, ◌&&◌, false≢true}
use mathlib.Core.List.{List, []}
use Prim.Native.Nat.{ℕ, ◌+◌, ◌*◌, ◌<◌}
use native.Mathlib.Numerals.{add-one}
use native.Mathlib.Nat.{not-suc-le-zero}
use native.Mathlib.Omega.{arith}
use lib.Dec.{eqb, ltb}
use lib.ListN.{drop, length-take, length-drop, length-replicate, get_or-replicate}
use lib.Seq.{length-take-le, get_or-take, get_or-drop, ext_get_or}
use Rattle.laws.specs.Places.{count}
use Rattle.laws.specs.Relation.{Table}
use Rattle.laws.specs.Sums.{sum}
use Rattle.laws.specs.Latest.{last_of}
use Rattle.laws.proofs.Tests.{and-iff, not_iff, same-iff, so-eq, eq?}
use Rattle.trace.specs.Bounds.{RECORDS}
use Rattle.trace.specs.Op.{read, written}
use Rattle.trace.specs.Trace.{at}
use Rattle.rules.specs.Frame.{Frame, Good, Writer, Source}
use Rattle.trace.specs.Meaning.{frame_of}
use Rattle.trace.specs.declared.Trace.{Trace}
use Rattle.rows.specs.Bounds.{WORDS}
use Rattle.rows.specs.Rows.{bit}
use Rattle.rows.specs.Empty.{empty_of}
use Rattle.rows.specs.Put.{put_if}
use Rattle.rows.specs.inner.Sets.{Holds}
use Rattle.rows.proofs.Whole.{empty-bit, empty-long}
use Rattle.rows.proofs.Sets.{put-more, empty_holds, empty-only}
use Rattle.rules.specs.RuleTests.{writer?}
use Rattle.rules.proofs.RuleTests.{writer-iff}
use Rattle.pairs.specs.Kept.{kept_pair, fenced, kept_of}
use Rattle.pairs.proofs.KeptPairs.{kept-parts}
use Rattle.edges.specs.inner.PairSets.{Only, Union}
use Rattle.rows.specs.inner.AddedPairs.{Added}
use Rattle.edges.specs.inner.DrawnEdges.{reads_first}
use Rattle.rules.specs.Ready.{operations}
use Rattle.plain.specs.Plain.{so_far, Orderly}
use Rattle.plain.specs.inner.Remembered.{StandsFor}
use Rattle.counting.specs.inner.FailedLists.{LISTS, list_slot, Recalled}
use Rattle.counting.specs.inner.CountedWalk.{counting_tables, LaidTables}
use Rattle.counting.specs.inner.CountingRows.{Among, SetsOf, owns, feeds?, FilledRows, Rows}

pub among_none : (P : ℕ → Bool) (set : List ℕ) → set ≡ empty_of WORDS → Among 0 P set
among_none P set e = rw e (record { long = empty-long WORDS; has = λ x. (λ t. absurd (false≢true (sym (empty-bit WORDS 0 x) ∙ t)), λ h. absurd (not-suc-le-zero h.0)) })

pub among-more : (P : ℕ → Bool) (k : ℕ) (set next : List ℕ) (b : Bool) → Among k P set → k < RECORDS → b ≡ P k → next ≡ put_if set b 0 k → Among (k + 1) P next
unfolding put_if
among-more P k set next true now l e q =
    let m = put-more set k now.long l in
    rw q (record {
      long = m.long;
      has = λ x. (
        λ t. elim ((m.has x).0 t) [
          | inl u ↦ let (h, v) = (now.has x).0 u in (omega arith, v)
          | inr d ↦ (omega (arith, d), ap P d ∙ sym e)
        ],
        λ h. (m.has x).1 (elim (eq? x k) [ inl d ↦ inr d | inr n ↦ inl ((now.has x).1 (omega (arith, h.0), h.1)) ]),
      );
    })
among-more P k set next false now l e q = rw q (record {
  long = now.long;
  has = λ x. (
    λ t. let (h, v) = (now.has x).0 t in (omega arith, v),
    λ h. elim (eq? x k) [
      | inl d ↦ absurd (false≢true (e ∙ ap P (sym d) ∙ h.1))
      | inr n ↦ (now.has x).1 (omega (arith, h.0), h.1)
    ],
  );
})

pub among-all : (P : ℕ → Bool) (k n : ℕ) (set : List ℕ) → k ≡ n → Among k P set → Among n P set
among-all P k n set e h = subst (λ (k : ℕ). Among k P set) e h

abbrev pub up_to : Frame → ℕ → ℕ
up_to f k = sum k (λ x. cond (f.operation x) 1 0)

pub up_none : (f : Frame) → 0 ≡ up_to f 0
unfolding sum
up_none f = refl

module _ (f : Frame) (k : ℕ) where
  up_step : (b : Bool) → f.operation k ≡ b → up_to f (k + 1) ≡ cond b 1 0 + up_to f k
  unfolding sum
  up_step b e = rw (add-one, sum, e) refl

  pub up-yes : f.operation k ≡ true → up_to f (k + 1) ≡ 1 + up_to f k
  up-yes = up_step true

  pub up-no : f.operation k ≡ false → up_to f (k + 1) ≡ up_to f k
  up-no e = omega (arith, up_step false e)

pub up-all : (t : Trace) (k : ℕ) → k ≡ t.len → up_to (frame_of t) k ≡ operations (frame_of t)
unfolding operations frame_of
up-all t k e = ap (up_to (frame_of t)) e

pub kept_at : (m : ℕ) (t : Trace) (x y : ℕ) (kept passed : Bool) → passed ≡ fenced t x y → kept ≡ kept_pair m (at t x) (at t y) (ltb x y && ltb y t.len) passed → kept ≡ kept_of m t x y
kept_at m t x y kept passed p k = k ∙ ap (kept_pair m (at t x) (at t y) (ltb x y && ltb y t.len)) p ∙ sym (kept-parts t x y m)

pub feeds-at : (t : Trace) (reads served : List ℕ) (x y : ℕ) (w r s : Bool) (v u : ℕ) → w ≡ writer? (frame_of t) x y → r ≡ bit reads 0 y → v ≡ read (at t y) → u ≡ written (at t x) → s ≡ bit served 0 y
    → (w && (r && eqb v u) && not s) ≡ feeds? (frame_of t) reads served x y
unfolding feeds? frame_of
feeds-at t reads served x y w r s v u a b c d e = rw (a, b, c, d, e) refl

module _ (n : ℕ) (R : Table) (m : ℕ) (rows : List ℕ) where
  pub filled : Added (empty_of m) (Union n (λ x. Union n (λ y. Only (R x y) x y))) rows → FilledRows n R rows
  unfolding Union
  filled a = record { pairs = λ x y. (λ t. go x y ((a.pairs x y).0 t), λ h. (a.pairs x y).1 (inr (x, h.0, (y, h.1, (h.2, refl, refl))))) }
    where
      go : (x y : ℕ) → So (bit (empty_of m) x y) ⊎ Union n (λ x. Union n (λ y. Only (R x y) x y)) x y → (x < n) × (y < n) × So (R x y)
      go x y (inl e) = absurd (false≢true (sym (empty-bit m x y) ∙ e))
      go x y (inr (u, h, (v, l, (r, e, d)))) = rw (e, d) (h, l, r)

  pub filled-back : Added (empty_of m) (Union n (λ x. Union n (λ y. Only (R x y) y x))) rows → FilledRows n (λ y x. R x y) rows
  unfolding Union
  filled-back a = record { pairs = λ y x. (λ t. go y x ((a.pairs y x).0 t), λ h. (a.pairs y x).1 (inr (x, h.1, (y, h.0, (h.2, refl, refl))))) }
    where
      go : (y x : ℕ) → So (bit (empty_of m) y x) ⊎ Union n (λ x. Union n (λ y. Only (R x y) y x)) y x → (y < n) × (x < n) × So (R x y)
      go y x (inl e) = absurd (false≢true (sym (empty-bit m y x) ∙ e))
      go y x (inr (u, h, (v, l, (r, e, d)))) = rw (e, d) (l, h, r)

module _ (f : Frame) (g : Good f) (K : Table) (k : Orderly f K) (n m : ℕ) (ops reads served : List ℕ) (records : f.records ≡ n) (sets : SetsOf f n ops reads served m) where
  -- who is an operation is below n
  small : (x : ℕ) → So (f.operation x) → x < n
  small x o = omega (arith, records, g.below x o)

  first-iff : (c : ℕ) → So (reads_first f c) ↔ (So (f.reads c) × (f.read c ≡ f.first (f.address c)))
  first-iff c = and-iff same-iff so-eq

  pub laid : (partners own fed rivals : List ℕ) → Rows f K n reads served partners own fed rivals → LaidTables f K (counting_tables n m ops reads partners own fed rivals)
  unfolding owns feeds?
  laid partners own fed rivals rows = record {
    good = g;
    orderly = k;
    records = records;
    total = sym sets.total;
    operation = λ x. (λ t. ((sets.operation.has x).0 t).1, λ t. (sets.operation.has x).1 (small x t, t));
    reads = λ x. (λ t. ((sets.read.has x).0 t).1, λ t. (sets.read.has x).1 (small x (g.reads x t), t));
    partners = λ x c h. (λ t. ((rows.kept.pairs c x).0 t).2, λ t. (rows.kept.pairs c x).1 (h, small x (k.joins x c t).0, t));
    own = λ S c h.
        let i : So (writer? f S c && f.earlier S c) ↔ (Writer f S c × So (f.earlier S c)) = and-iff (writer-iff f S c) same-iff in
        (λ t. i.0 ((rows.owned.pairs c S).0 t).2, λ w. (rows.owned.pairs c S).1 (h, small S (g.writes S w.0.writes), i.1 w));
    fed = λ y c h. (λ t. there y c ((rows.sourced.pairs y c).0 t).2, λ s. (rows.sourced.pairs y c).1 (h, small c (g.reads c s.reads), back y c s));
    rivals = λ y c h l. (λ t. (writer-iff f y c).0 ((rows.rival.pairs y c).0 t).2, λ w. (rows.rival.pairs y c).1 (h, l, (writer-iff f y c).1 w));
  }
    where
      tests : (y c : ℕ) → So (writer? f y c && (bit reads 0 c && eqb (f.read c) (f.written y)) && not (bit served 0 c)) ↔ ((Writer f y c × (So (bit reads 0 c) × (f.read c ≡ f.written y))) × (So (bit served 0 c) → ⊥))
      tests y c = and-iff (and-iff (writer-iff f y c) (and-iff same-iff so-eq)) (not_iff same-iff)

      there : (y c : ℕ) → So (writer? f y c && (bit reads 0 c && eqb (f.read c) (f.written y)) && not (bit served 0 c)) → Source f y c
      there y c t =
          let p = (tests y c).0 t in
          let (h, r) = (sets.read.has c).0 p.0.1.0 in
          record { writer = p.0.0; reads = r; value = p.0.1.1; later = λ e. p.1 ((sets.first.has c).1 (h, (first-iff c).1 (r, e))) }

      back : (y c : ℕ) → Source f y c → So (writer? f y c && (bit reads 0 c && eqb (f.read c) (f.written y)) && not (bit served 0 c))
      back y c s =
          (tests y c).1 ((s.writer, ((sets.read.has c).1 (small c (g.reads c s.reads), s.reads), s.value)), λ t. s.later ((first-iff c).0 ((sets.first.has c).0 t).1).1)

  pub stands-none : StandsFor f K [] (bit (empty_of WORDS) 0) (bit served 0)
  unfolding so_far last_of count
  stands-none = record {
    built = tt;
    holds = empty_holds WORDS;
    serves = λ c. (
      λ t. let q = (first-iff c).0 ((sets.first.has c).0 t).1 in record { reads = q.0; unplaced = refl; value = q.1 },
      λ s. (sets.first.has c).1 (small c (g.reads c s.reads), (first-iff c).1 (s.reads, s.value)),
    );
  }

-- every slot of an empty memory is empty
slot-empty : (s : ℕ) → s < LISTS → list_slot (empty_of (LISTS * WORDS)) s ≡ empty_of WORDS
unfolding list_slot
slot-empty s h =
    let m : ℕ = LISTS * WORDS in
    let long = length-drop (s * WORDS) (empty_of m) in
    let n = length-replicate {A = ℕ} m 0 in
    ext_get_or 0 _ _ (length-take-le WORDS (drop (s * WORDS) (empty_of m)) (omega arith) ∙ sym (length-replicate {A = ℕ} WORDS 0))
    (λ i l. let w : i < WORDS = omega (arith, length-take WORDS (drop (s * WORDS) (empty_of m))) in
    get_or-take WORDS (drop (s * WORDS) (empty_of m)) i 0 w
    ∙ get_or-drop (s * WORDS) (empty_of m) i 0
    ∙ get_or-replicate m (s * WORDS + i) 0 0 (omega arith)
    ∙ sym (get_or-replicate WORDS i 0 0 w))

pub right-none : (f : Frame) (K : Table) (serves counts : List ℕ) → Recalled f K (empty_of (LISTS * WORDS)) serves counts
right-none f K serves counts s h p b l = absurd (empty-only WORDS p (subst (λ (set : List ℕ). Holds set p) (slot-empty s h) b.holds) l)
