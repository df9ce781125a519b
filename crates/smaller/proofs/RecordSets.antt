-- Sets of records as rows, and lists of them in an array.
--
--   put_some     == a number put into a set where a test passed
--   lays-none, lays_more == how the pairs of a source and its reader are laid, a reader at a time
--   put-source   == a source writes, so that asking it whether it does changes nothing
--   lays-chains  == whoever goes with a record, from the chains of these pairs
--   padded-more  == one number more in an array
use mathlib.Core.Path.{◌≡◌, refl, sym, ap, ◌∙◌, subst}
use mathlib.Core.Logic.{◌≢◌, ◌↔◌, inl, inr}
use mathlib.Core.Bool.{Bool, true, false, So, false≢true}
use mathlib.Core.List.{List, [], ◌∷◌, ◌++◌, append_assoc}
use Prim.Native.Nat.{ℕ, suc, ◌+◌, ◌-◌, ◌≤◌, ◌<◌}
use native.Mathlib.Decide.{dec_lt}
use native.Mathlib.Omega.{arith}
use lib.Dec.{ltb}
use lib.ListN.{length, set, replicate, length-append}
use lib.Seq.{set_at}
use Rattle.laws.proofs.Relation.{chain-mono}
use Rattle.laws.proofs.Tests.{test-one, last?, and-iff, same-iff}
use Rattle.trace.specs.Bounds.{RECORDS}
use Rattle.trace.specs.Op.{writes}
use Rattle.trace.specs.Trace.{at}
use Rattle.rules.specs.Frame.{Frame, Good, Source}
use Rattle.trace.specs.Meaning.{frame_of}
use Rattle.trace.specs.Padded.{padded}
use Rattle.trace.specs.declared.Trace.{Trace}
use Rattle.rows.specs.Bounds.{CELLS, WORDS}
use Rattle.rows.specs.Rows.{bit}
use Rattle.rows.specs.Empty.{empty_of}
use Rattle.rows.specs.Put.{put_of, put_if}
use Rattle.rows.specs.Chained.{Chained}
use Rattle.rows.proofs.Pair.{put-iff, put-left, put-long}
use Rattle.rows.proofs.Whole.{empty-bit, empty-long}
use Rattle.pairs.specs.SourceOf.{source_of}
use Rattle.pairs.proofs.SourceOf.{source-of-is, source-of-has}
use Rattle.rows.proofs.Sets.{put-more}
use Rattle.smaller.specs.inner.RecordSets.{Chosen, ReaderChains}

pub record Some (before : List ℕ) (b : Bool) (y : ℕ) (after : List ℕ) : Type 0 where
  pub long : length after ≡ WORDS
  pub here : Chosen after y ≡ b
  pub others : (x : ℕ) → x ≢ y → Chosen after x ≡ Chosen before x

pub put_some : (before : List ℕ) (b : Bool) (y : ℕ) → length before ≡ WORDS → y < RECORDS → Chosen before y ≡ false → Some before b y (put_if before b 0 y)
unfolding put_if
put_some before false y l h e = record { long = l; here = e; others = λ x d. refl }
put_some before true y l h e =
    let m = put-more before y l h in
    record {
      long = m.long;
      here = (m.has y).1 (inr refl);
      others = λ x d. test-one (λ t. elim ((m.has x).0 t) [ inl s ↦ s | inr q ↦ absurd (d q) ], λ s. (m.has x).1 (inl s)) same-iff;
    }

module _ (f : Frame) (g : Good f) where
  -- the sources of the loads below n
  pub record Lays (n : ℕ) (rows : List ℕ) : Type 0 where
    pub long : length rows ≡ CELLS
    pub pairs : (S L : ℕ) → So (bit rows S L) ↔ ((L < n) × Source f S L)

  pub lays-none : (rows : List ℕ) → rows ≡ empty_of CELLS → Lays 0 rows
  lays-none rows e = record {
    long = ap length e ∙ empty-long CELLS;
    pairs = λ S L. rw e (λ t. absurd (false≢true (sym (empty-bit CELLS S L) ∙ t)), λ p. absurd (omega (arith, p.0)));
  }

  pub lays_more : (fits : f.records ≤ RECORDS) (n : ℕ) → n < f.records → (rows : List ℕ) → Lays n rows → Lays (n + 1) (put_of rows (source_of f n) n)
  lays_more fits n h rows p = record { long = put-long rows s n ∙ p.long; pairs = pairs }
    where
      s : ℕ
      s = source_of f n

      only : (S : ℕ) → Source f S n → s ≡ S
      only S q = source-of-has f n g S (omega (arith, g.below S (g.writes S q.writer.writes))) q

      pairs : (S L : ℕ) → So (bit (put_of rows s n) S L) ↔ ((L < n + 1) × Source f S L)
      pairs S L = elim (dec_lt s RECORDS) [
        | yes b ↦ let i = put-iff rows s n b (omega arith) (omega (arith, p.long)) S L in (
          λ t. elim (i.0 t) [
            | inl e ↦ let q = (p.pairs S L).0 e in (omega (arith, q.0), q.1)
            | inr e ↦ (omega (arith, e.1), rw (e.0, e.1) (source-of-is f n b))
          ],
          λ q. i.1 (elim (last? {i = L} {n = n} (omega (arith, q.0))) [
            | inl e ↦ inr (sym (only S (subst (λ (L : ℕ). Source f S L) e q.1)), e)
            | inr l ↦ inl ((p.pairs S L).1 (l, q.1))
          ]),
        )
        | no b ↦ rw (put-left rows s n (omega arith)) (
          λ t. let q = (p.pairs S L).0 t in (omega (arith, q.0), q.1),
          λ q. elim (last? {i = L} {n = n} (omega (arith, q.0))) [
            | inl e ↦ let w = subst (λ (L : ℕ). Source f S L) e q.1 in absurd (b (omega (arith, only S w, g.below S (g.writes S w.writer.writes))))
            | inr l ↦ (p.pairs S L).1 (l, q.1)
          ],
        )
      ]

  pub lays-chains : (n : ℕ) → f.records ≤ n → (before after : List ℕ) → Lays n before → Chained before after → ReaderChains f after
  lays-chains n h before after p q = record {
    goes = λ i x. let c = q.chains p.long i x in (
      λ t. chain-mono (λ S L e. ((p.pairs S L).0 e).1) i x (c.0 t),
      λ k. c.1 (chain-mono (λ S L s. (p.pairs S L).1 (omega (arith, g.below L (g.reads L s.reads)), s)) i x k),
    );
  }

-- whoever is a source writes
pub put-source : (t : Trace) (n : ℕ) (rows : List ℕ) → put_if rows (writes (at t (source_of (frame_of t) n))) (source_of (frame_of t) n) n ≡ put_of rows (source_of (frame_of t) n) n
unfolding put_if frame_of
put-source t n rows = elim (dec_lt (source_of (frame_of t) n) RECORDS) [
  | yes b ↦ ap (λ (w : Bool). put_if rows w (source_of (frame_of t) n) n) ((and-iff {a = ltb (source_of (frame_of t) n) t.len} {b = writes (at t (source_of (frame_of t) n))} same-iff same-iff).0 (source-of-is (frame_of t) n b).writer.writes).1
  | no b ↦ go (omega arith) (writes (at t (source_of (frame_of t) n)))
]
  where
    go : RECORDS ≤ source_of (frame_of t) n → (w : Bool) → put_if rows w (source_of (frame_of t) n) n ≡ put_of rows (source_of (frame_of t) n) n
    go h true = refl
    go h false = sym (put-left rows (source_of (frame_of t) n) n h)

-- an array that is not full has a 0 behind its list
unused : (n k : ℕ) → k < n → replicate {A = ℕ} (n - k) 0 ≡ 0 ∷ replicate (n - (k + 1)) 0
unused n k h = let e : n - k ≡ suc (n - (k + 1)) = omega arith in ap (λ (m : ℕ). replicate {A = ℕ} m 0) e

pub padded-more : (l : List ℕ) (n v : ℕ) → length l ≡ n → n < RECORDS → set (padded l) n v ≡ padded (l ++ v ∷ [])
padded-more l n v e h =
    ap (λ (r : List ℕ). set (l ++ r) n v) (unused RECORDS (length l) (omega arith))
    ∙ set_at l 0 (replicate (RECORDS - (length l + 1)) 0) v n e
    ∙ sym (append_assoc l (v ∷ []) _)
    ∙ ap (λ (m : ℕ). (l ++ v ∷ []) ++ replicate (RECORDS - m) 0) (sym (length-append l (v ∷ [])))
