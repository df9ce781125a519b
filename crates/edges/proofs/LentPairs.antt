-- Lent pairs, drawn a row at a time.
--
--   spared             == a row of which what another has is spared, added to rows
--   Apart t o          == row 0 of o has the numbers that are no operations of the trace
--   other_at, apart    == a number that is no operation, as a loop reads it off a record, and all of them
--   lent-spared        == what joins operations is what is drawn of lent rows
--   paired-both        == rules 1 and 8 together
--   supposed-lent      == supposed pairs are lent ones
use mathlib.Core.Path.{◌≡◌, refl, sym, ap, ◌∙◌}
use mathlib.Core.Logic.{◌↔◌, ◌⊎◌, inl, inr}
use mathlib.Core.Bool.{Bool, So, not, ◌||◌, false≢true}
use mathlib.Core.List.{List}
use Prim.Native.Nat.{ℕ, ◌<◌, ◌≤◌}
use native.Mathlib.Decide.{dec_lt}
use native.Mathlib.Omega.{arith}
use lib.Dec.{leb}
use lib.ListN.{length}
use Rattle.laws.proofs.Tests.{test, or-iff, not_iff, same-iff, so-le, test-one}
use Rattle.trace.specs.Bounds.{RECORDS}
use Rattle.trace.specs.Op.{fence}
use Rattle.trace.specs.Trace.{at}
use Rattle.trace.specs.Meaning.{frame_of}
use Rattle.trace.specs.declared.Trace.{Trace}
use Rattle.trace.proofs.Meaning.{operation-iff}
use Rattle.rows.specs.Bounds.{WORDS, CELLS}
use Rattle.rows.specs.Rows.{bit, Edges, Words}
use Rattle.rows.specs.Empty.{empty_of}
use Rattle.rows.specs.AddRow.{add_row_of}
use Rattle.rows.specs.DropRow.{drop_row_of}
use Rattle.rows.specs.Lent.{lent_of}
use Rattle.rows.specs.inner.AddedPairs.{Added}
use Rattle.rows.proofs.Rows.{bit-bounds}
use Rattle.rows.proofs.Whole.{empty-bit, empty-long, empty-words}
use Rattle.rows.proofs.Closing.{row-added}
use Rattle.rows.proofs.Dropping.{row-dropped, drop-words}
use Rattle.rows.proofs.Lent.{lent-iff}
use Rattle.edges.specs.Supposed.{supposed_of}
use Rattle.edges.specs.inner.PairSets.{Only, Union, Cover}
use Rattle.edges.specs.inner.DrawnEdges.{Spared, SparedFrom, paired}
use Rattle.edges.proofs.PairSets.{adds-as}

-- the row is made of the empty one
module _ (lent : List ℕ) (words : Words lent) (others : List ℕ) (small : Words others) (x : ℕ) (hx : x < RECORDS) (r s : List ℕ) (p : r ≡ add_row_of lent x (empty_of WORDS) 0) (q : s ≡ drop_row_of others 0 r 0) where
  given : Added (empty_of WORDS) (λ i j. (i ≡ 0) × Edges lent x j) r
  given = let g = row-added lent words x (empty_of WORDS) 0 (omega arith) (omega (arith, empty-long WORDS)) in rw p (record { long = g.long; words = g.words; pairs = g.pairs })

  long : length r ≡ WORDS
  long = given.long ∙ empty-long WORDS

  row_is : (j : ℕ) → Edges s 0 j ↔ (So (bit lent x j) × (So (bit others 0 j) → ⊥))
  row_is j =
      let d = row-dropped others 0 r 0 (omega arith) (omega (arith, long)) 0 j in
      rw q (
        λ t. let u = d.0 t in (elim ((given.pairs 0 j).0 u.0) [ inl v ↦ absurd (false≢true (sym (empty-bit WORDS 0 j) ∙ v)) | inr v ↦ v.1 ], λ o. u.1 (refl, o)),
        λ u. d.1 ((given.pairs 0 j).1 (inr (refl, u.0)), λ o. u.1 o.1),
      )

  pub spared : (e e' : List ℕ) → length e ≡ CELLS → e' ≡ add_row_of s 0 e x → Added e (Spared lent others x) e'
  spared e e' l a =
      let left : Words s = rw q (drop-words others small 0 r (given.words (empty-words WORDS)) 0) in
      let g = row-added s left 0 e x hx (omega (arith, l)) in
      rw a (adds-as (Spared lent others x) (record { long = g.long; words = g.words; pairs = g.pairs })
      (λ i j. (λ u. let v = (row_is j).0 u.1 in (u.0, v.0, v.1), λ u. (u.0, (row_is j).1 (u.1, u.2)))))

module _ (t : Trace) where
  pub other_at : (y : ℕ) (b : Bool) → b ≡ fence (at t y) → (leb t.len y || b) ≡ not ((frame_of t).operation y)
  other_at y b e = test-one {A = So ((frame_of t).operation y) → ⊥} (
    λ s o.
        let p = (operation-iff t y).0 o in
        elim (either.0 s) [ inl l ↦ omega (arith, p.0) | inr f ↦ (not_iff (same-iff {a = fence (at t y)})).0 p.1 (sym e ∙ f) ],
    λ n. either.1 (elim (dec_lt y t.len) [
      | yes l ↦ elim (test b) [ inl f ↦ inr f | inr f ↦ absurd (n ((operation-iff t y).1 (l, (not_iff (same-iff {a = fence (at t y)})).1 (λ g. false≢true (sym f ∙ e ∙ g))))) ]
      | no l ↦ inl (omega arith)
    ]),
  ) (not_iff same-iff)
    where
      either : So (leb t.len y || b) ↔ ((t.len ≤ y) ⊎ So b)
      either = or-iff (so-le {m = t.len} {n = y}) (same-iff {a = b})

  abbrev pub Apart : List ℕ → Type 0
  Apart o = (y : ℕ) → So (bit o 0 y) ↔ ((y < RECORDS) × (So ((frame_of t).operation y) → ⊥))

  pub apart : (o o' : List ℕ) (n : ℕ) → o ≡ empty_of n → Added o (Union RECORDS (λ y. Only (not ((frame_of t).operation y)) 0 y)) o' → Apart o'
  unfolding Union
  apart o o' n e a y = (
    λ s. elim ((a.pairs 0 y).0 s) [
      | inl u ↦ absurd (false≢true (sym (ap (λ r. bit r 0 y) e ∙ empty-bit n 0 y) ∙ u))
      | inr u ↦ let h = (not_iff (same-iff {a = (frame_of t).operation u.0})).0 u.2.0 in ((bit-bounds o' 0 y s).1, rw u.2.2 h)
    ],
    λ u. (a.pairs 0 y).1 (inr (y, u.0, ((not_iff (same-iff {a = (frame_of t).operation y})).1 u.1, refl, refl))),
  )

  pub lent-spared : t.len ≤ RECORDS → (lent others : List ℕ) → Apart others → (i j : ℕ)
      → Union t.len (SparedFrom lent others) i j ↔ Cover t.len (λ x y. Only (lent_of t lent x y) x y) i j
  unfolding Union
  lent-spared small lent others apart i j = (
    λ u.
        let v = u.2 in
        let b = bit-bounds lent u.0 j v.1.1 in
        let o = operation? j b.1 v.1.2 in
        (u.0, u.1, (j, ((operation-iff t j).0 o).0, ((lent-iff t lent u.0 j).1 ((operation? u.0 b.0 v.0, o), v.1.1), v.1.0, refl))),
    λ u.
        let v = u.2 in
        let k = (lent-iff t lent u.0 v.0).0 v.2.0 in
        (u.0, u.1, (λ s. ((apart u.0).0 s).1 k.0.0, rw v.2.2 (v.2.1, k.1, λ s. ((apart v.0).0 s).1 k.0.1))),
  )
    where
      operation? : (y : ℕ) → y < RECORDS → (So (bit others 0 y) → ⊥) → So ((frame_of t).operation y)
      operation? y h n = elim (test ((frame_of t).operation y)) [ inl s ↦ s | inr e ↦ absurd (n ((apart y).1 (h, λ s. false≢true (sym e ∙ s)))) ]

  pub paired-both : (kept rows : List ℕ) (i j : ℕ)
      → (Cover t.len (λ x y. Only (lent_of t kept x y) x y) i j ⊎ Cover t.len (λ x y. Only (lent_of t rows x y) x y) i j) ↔ Cover t.len (λ x y. Only (paired t kept rows x y) x y) i j
  unfolding Union
  paired-both kept rows i j = (
    λ s. elim s [
      | inl u ↦ let v = u.2 in (u.0, u.1, (v.0, v.1, ((either u.0 v.0).1 (inl v.2.0), v.2.1, v.2.2)))
      | inr u ↦ let v = u.2 in (u.0, u.1, (v.0, v.1, ((either u.0 v.0).1 (inr v.2.0), v.2.1, v.2.2)))
    ],
    λ u. let v = u.2 in elim ((either u.0 v.0).0 v.2.0) [
      | inl k ↦ inl (u.0, u.1, (v.0, v.1, (k, v.2.1, v.2.2)))
      | inr k ↦ inr (u.0, u.1, (v.0, v.1, (k, v.2.1, v.2.2)))
    ],
  )
    where
      either : (x y : ℕ) → So (paired t kept rows x y) ↔ (So (lent_of t kept x y) ⊎ So (lent_of t rows x y))
      either x y = or-iff (same-iff {a = lent_of t kept x y}) (same-iff {a = lent_of t rows x y})

  pub supposed-lent : (rows : List ℕ) → lent_of t rows ≡ supposed_of t rows
  unfolding lent_of supposed_of
  supposed-lent rows = λ i x y. same x y i
    where
      same : (x y : ℕ) → lent_of t rows x y ≡ supposed_of t rows x y
      same x y = refl
