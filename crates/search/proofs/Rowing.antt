-- Tables laid a whole row at a time.
--
--   addressed-none, addressed-more == the writers of each address, record by record
--   rowed, own_out                 == a row that takes a row and loses another; the set of one number
--   filling-none, filling-row      == no row yet; one row more
--   filling-all                    == past the last row
--   writers-row, readers-row       == what the row of an address gives to a record of that address; to one that writes it
--   filling_skip                   == a record that writes nothing has none
use mathlib.Core.Path.{◌≡◌, refl, sym, ap, ◌∙◌, subst}
use mathlib.Core.Logic.{inl, inr, ◌↔◌}
use mathlib.Core.Bool.{Bool, true, false, So, not, ◌&&◌, ◌||◌, false≢true}
use mathlib.Core.List.{List}
use Prim.Native.Nat.{ℕ, ◌+◌, ◌*◌, ◌<◌, ◌≤◌}
use native.Mathlib.Omega.{arith}
use lib.Dec.{eqb}
use lib.ListN.{length}
use Rattle.laws.specs.Relation.{Table}
use Rattle.laws.proofs.Tests.{eq?, and-iff, or-iff, same-iff, so-eq, not_iff}
use Rattle.trace.specs.Bounds.{RECORDS}
use Rattle.trace.specs.Meaning.{frame_of}
use Rattle.trace.specs.Op.{address, writes}
use Rattle.trace.specs.Trace.{at}
use Rattle.trace.specs.declared.Trace.{Trace}
use Rattle.rows.specs.Bounds.{WORDS, CELLS}
use Rattle.rows.specs.Rows.{bit, Edges, Words}
use Rattle.rows.specs.Empty.{empty_of}
use Rattle.rows.specs.Put.{put_of}
use Rattle.rows.specs.inner.AddedPairs.{Added}
use Rattle.rows.specs.AddRow.{add_row_of}
use Rattle.rows.specs.DropRow.{drop_row_of}
use Rattle.rows.proofs.Closing.{row-added}
use Rattle.rows.proofs.Dropping.{drop-long, row-dropped}
use Rattle.rows.proofs.Sets.{put-more}
use Rattle.rows.proofs.Whole.{empty-bit, empty-long}
use Rattle.edges.specs.inner.PairSets.{Only}
use Rattle.edges.proofs.DrawnEdges.{writer-at}
use Rattle.rules.specs.RuleTests.{writer?}
use Rattle.search.specs.inner.TablesLaid.{Filled, reader?, Addressed, Rowed, Filling}

pub addressed-none : (t : Trace) (all : Bool) (by : List ℕ) → by ≡ empty_of CELLS → Addressed t all 0 by
addressed-none t all by e = rw e (record {
  long = empty-long CELLS;
  pairs = λ a x. (λ u. absurd (false≢true (sym (empty-bit CELLS a x) ∙ u)), λ h. absurd (omega (arith, h.0)));
})

module _ (t : Trace) (all : Bool) (k : ℕ) (by next : List ℕ) (now : Addressed t all k by) (b : Bool) (a : ℕ) (p : b ≡ (writes (at t k) || all)) (q : a ≡ address (at t k)) (adds : Added by (Only b a k) next) where
  pub addressed-more : Addressed t all (k + 1) next
  addressed-more = record { long = adds.long ∙ now.long; pairs = λ i x. (forth i x, back i x) }
    where
      forth : (i x : ℕ) → So (bit next i x) → (x < k + 1) × So (writes (at t x) || all) × (address (at t x) ≡ i)
      forth i x u = elim ((adds.pairs i x).0 u) [
        | inl e ↦ let h = (now.pairs i x).0 e in (omega (arith, h.0), h.1, h.2)
        | inr (s, e, d) ↦ (omega arith, subst (λ (x : ℕ). So (writes (at t x) || all)) (sym d) (sym p ∙ s), ap (λ (x : ℕ). address (at t x)) d ∙ sym q ∙ sym e)
      ]

      back : (i x : ℕ) → (x < k + 1) × So (writes (at t x) || all) × (address (at t x) ≡ i) → So (bit next i x)
      back i x (l, w, e) = (adds.pairs i x).1 (elim (eq? x k) [
        | inl d ↦ inr (p ∙ subst (λ (x : ℕ). So (writes (at t x) || all)) d w, sym e ∙ ap (λ (x : ℕ). address (at t x)) d ∙ sym q, d)
        | inr d ↦ inl ((now.pairs i x).1 (omega arith, w, e))
      ])

-- row y takes row m of one table and loses row k of another
pub rowed : (from : List ℕ) → Words from → (m : ℕ) (out : List ℕ) (k y : ℕ) → y < RECORDS → (rows one two : List ℕ) → y * WORDS + WORDS ≤ length rows → one ≡ add_row_of from m rows y → two ≡ drop_row_of out k one y
    → Rowed y (Edges from m) (Edges out k) rows two
rowed from words m out k y hy rows one two room e d = record {
  long = ap length d ∙ drop-long out k one y hy space ∙ long;
  pairs = λ i x. (
    λ u. let g = (drops i x).0 (subst (λ (r : List ℕ). So (bit r i x)) d u) in ((added.pairs i x).0 (subst (λ (r : List ℕ). So (bit r i x)) e g.0), g.1),
    λ h. subst (λ (r : List ℕ). So (bit r i x)) (sym d) ((drops i x).1 (subst (λ (r : List ℕ). So (bit r i x)) (sym e) ((added.pairs i x).1 h.0), h.1)),
  );
}
  where
    added : Added rows (λ i x. (i ≡ y) × Edges from m x) (add_row_of from m rows y)
    added = row-added from words m rows y hy room

    long : length one ≡ length rows
    long = ap length e ∙ added.long

    space : y * WORDS + WORDS ≤ length one
    space = omega (arith, long, room)

    drops : (i x : ℕ) → So (bit (drop_row_of out k one y) i x) ↔ (Edges one i x × ((i ≡ y) × Edges out k x → ⊥))
    drops = row-dropped out k one y hy space

-- the same with another word for what is lost
pub rowed-as : {y : ℕ} {In Out Lost : ℕ → Type 0} {rows next : List ℕ} → ((x : ℕ) → Out x ↔ Lost x) → Rowed y In Out rows next → Rowed y In Lost rows next
rowed-as same r = record {
  long = r.long;
  pairs = λ i x. (
    λ u. let g = (r.pairs i x).0 u in (g.0, λ h. g.1 (h.0, (same x).1 h.1)),
    λ g. (r.pairs i x).1 (g.0, λ h. g.1 (h.0, (same x).0 h.1)),
  );
}

-- the set of one number
pub own_out : (y : ℕ) → y < RECORDS → (own : List ℕ) → own ≡ put_of (empty_of WORDS) 0 y → (x : ℕ) → Edges own 0 x ↔ (x ≡ y)
own_out y hy own e x =
    let more = (put-more (empty_of WORDS) y (empty-long WORDS) hy).has x in (
      λ u. elim (more.0 (subst (λ (r : List ℕ). So (bit r 0 x)) e u)) [ inl v ↦ absurd (false≢true (sym (empty-bit WORDS 0 x) ∙ v)) | inr d ↦ d ],
      λ d. subst (λ (r : List ℕ). So (bit r 0 x)) (sym e) (more.1 (inr d)),
    )

pub filling-none : (n : ℕ) (R : Table) (rows : List ℕ) → rows ≡ empty_of CELLS → Filling 0 n R rows
filling-none n R rows e = rw e (record {
  long = empty-long CELLS;
  pairs = λ x y. (λ u. absurd (false≢true (sym (empty-bit CELLS y x) ∙ u)), λ h. absurd (omega (arith, h.0)));
})

module _ (k n : ℕ) (R : Table) (rows next : List ℕ) (now : Filling k n R rows) (In Out : ℕ → Type 0) (r : Rowed k In Out rows next) (same : (x : ℕ) → (In x × (Out x → ⊥)) ↔ ((x < n) × So (R x k))) where
  pub filling-row : Filling (k + 1) n R next
  filling-row = record { long = r.long ∙ now.long; pairs = λ x y. (forth x y, back x y) }
    where
      forth : (x y : ℕ) → So (bit next y x) → (y < k + 1) × (x < n) × So (R x y)
      forth x y u =
          let g = (r.pairs y x).0 u in
          elim g.0 [
            | inl e ↦ let h = (now.pairs x y).0 e in (omega (arith, h.0), h.1, h.2)
            | inr (q, i) ↦ let h = (same x).0 (i, λ o. g.1 (q, o)) in (omega arith, h.0, subst (λ (y : ℕ). So (R x y)) (sym q) h.1)
          ]

      back : (x y : ℕ) → (y < k + 1) × (x < n) × So (R x y) → So (bit next y x)
      back x y (l, b, s) = elim (eq? y k) [
        | inl q ↦ let h = (same x).1 (b, subst (λ (y : ℕ). So (R x y)) q s) in (r.pairs y x).1 (inr (q, h.0), λ o. h.1 o.1)
        | inr d ↦ (r.pairs y x).1 (inl ((now.pairs x y).1 (omega arith, b, s)), λ o. d o.0)
      ]

pub filling-all : (k n : ℕ) (R : Table) (rows : List ℕ) → k ≡ n → Filling k n R rows → Filling n n R rows
filling-all k n R rows e f = subst (λ (k : ℕ). Filling k n R rows) e f

pub filled_of : {n : ℕ} {R : Table} {rows : List ℕ} → Filling n n R rows → Filled n R rows
filled_of f = record { pairs = f.pairs }

-- the row of y's address, but y
pub writers-row : (t : Trace) (by : List ℕ) → Addressed t false t.len by → (y a : ℕ) → a ≡ address (at t y) → (x : ℕ) → (Edges by a x × (x ≡ y → ⊥)) ↔ ((x < t.len) × So (writer? (frame_of t) x y))
writers-row t by now y a e x = (
  λ u. let h = (now.pairs a x).0 u.0 in (h.0, sym (tests h.0) ∙ parts.1 ((only.0 h.1, h.2 ∙ e), u.1)),
  λ u. let h = parts.0 (tests u.0 ∙ u.1) in ((now.pairs a x).1 (u.0, only.1 h.0.0, h.0.1 ∙ sym e), h.1),
)
  where
    parts : So (writes (at t x) && eqb (address (at t x)) (address (at t y)) && not (eqb x y)) ↔ ((So (writes (at t x)) × (address (at t x) ≡ address (at t y))) × (x ≡ y → ⊥))
    parts = and-iff (and-iff same-iff so-eq) (not_iff so-eq)

    tests : x < t.len → (writes (at t x) && eqb (address (at t x)) (address (at t y)) && not (eqb x y)) ≡ writer? (frame_of t) x y
    tests l = writer-at t x y l (writes (at t x)) (address (at t x)) (address (at t y)) refl refl refl

    only : So (writes (at t x) || false) ↔ So (writes (at t x))
    only =
        let o = or-iff (same-iff {a = writes (at t x)}) (same-iff {a = false}) in
        (λ u. elim (o.0 u) [ inl v ↦ v | inr v ↦ absurd (false≢true v) ], λ u. o.1 (inl u))

-- of a record that writes, the other records of its address
pub readers-row : (t : Trace) (by : List ℕ) → Addressed t true t.len by → (y a : ℕ) → y < t.len → So (writes (at t y)) → a ≡ address (at t y) → (x : ℕ) → (Edges by a x × (x ≡ y → ⊥)) ↔ ((x < t.len) × So (reader? (frame_of t) x y))
readers-row t by now y a l w e x = (
  λ u. let h = (now.pairs a x).0 u.0 in (h.0, sym tests ∙ parts.1 ((w, sym e ∙ sym h.2), λ d. u.1 (sym d))),
  λ u. let h = parts.0 (tests ∙ u.1) in ((now.pairs a x).1 (u.0, (or-iff (same-iff {a = writes (at t x)}) (same-iff {a = true})).1 (inr refl), sym h.0.1 ∙ sym e), λ d. h.1 (sym d)),
)
  where
    parts : So (writes (at t y) && eqb (address (at t y)) (address (at t x)) && not (eqb y x)) ↔ ((So (writes (at t y)) × (address (at t y) ≡ address (at t x))) × (y ≡ x → ⊥))
    parts = and-iff (and-iff same-iff so-eq) (not_iff so-eq)

    tests : (writes (at t y) && eqb (address (at t y)) (address (at t x)) && not (eqb y x)) ≡ writer? (frame_of t) y x
    tests = writer-at t y x l (writes (at t y)) (address (at t y)) (address (at t x)) refl refl refl

-- a record that writes nothing has none
pub filling_skip : (t : Trace) (k : ℕ) (rows : List ℕ) → k < t.len → writes (at t k) ≡ false → Filling k t.len (reader? (frame_of t)) rows → Filling (k + 1) t.len (reader? (frame_of t)) rows
filling_skip t k rows l w now = record {
  long = now.long;
  pairs = λ x y. (
    λ u. let h = (now.pairs x y).0 u in (omega (arith, h.0), h.1, h.2),
    λ h. elim (eq? y k) [
      | inl e ↦ absurd (false≢true (sym w ∙ ap (λ (y : ℕ). writes (at t y)) (sym e) ∙ wrote x y (rw e l) h.2))
      | inr d ↦ (now.pairs x y).1 (omega (arith, h.0), h.1, h.2)
    ],
  );
}
  where
    wrote : (x y : ℕ) → y < t.len → So (reader? (frame_of t) x y) → So (writes (at t y))
    wrote x y l u = ((and-iff (and-iff (same-iff {a = writes (at t y)}) (so-eq {m = address (at t y)} {n = address (at t x)})) (not_iff (so-eq {m = y} {n = x}))).0 (writer-at t y x l (writes (at t y)) (address (at t y)) (address (at t x)) refl refl refl ∙ u)).0.0
