-- The sources are laid.
--
--   listed_more                          == one place more of a list is laid
--   sources-laid-none, sources-laid-more == no source yet, and one more
--   source-laid                          == the lowest writer of the load's address that wrote what it reads is its source
--   source-of-past                       == a number past the records has no source
--   sources-all                          == all of them are laid, in a list of RECORDS everywhere
--   sources-other                        == a trace that says it has more records than it has room for
--   sources-one                          == no second list has the sources
use mathlib.Core.Path.{◌≡◌, refl, sym, ◌∙◌}
use mathlib.Core.Logic.{inl, inr, ◌↔◌}
use mathlib.Core.Bool.{Bool, So, not, ◌&&◌}
use mathlib.Core.List.{List}
use Prim.Native.Nat.{ℕ, ◌+◌, ◌<◌, ◌≤◌}
use native.Mathlib.Decide.{dec_lt}
use native.Mathlib.Omega.{arith}
use borrow.Author.Count.{below_more}
use lib.Dec.{eqb}
use lib.ListN.{length, get_or, set, length-set, replicate, length-replicate, get_or-replicate}
use lib.Seq.{get_or-set_same, get_or-set_other, ext_get_or}
use Rattle.laws.proofs.Tests.{off, and-iff, not_iff, same-iff, so-lt, so-eq}
use Rattle.trace.specs.Bounds.{RECORDS}
use Rattle.trace.specs.Meaning.{frame_of}
use Rattle.trace.specs.Op.{address, read, reads, writes, written}
use Rattle.trace.specs.Trace.{at, first}
use Rattle.trace.specs.declared.Trace.{Trace}
use Rattle.trace.proofs.Meaning.{writes-iff}
use Rattle.rows.specs.Rows.{bit}
use Rattle.rows.proofs.Rows.{bit-bounds}
use Rattle.rules.specs.Frame.{Frame}
use Rattle.rules.specs.RuleTests.{source?}
use Rattle.pairs.specs.SourceOf.{reads_from, source_of}
use Rattle.pairs.proofs.SourceOf.{source-parts, source-of-found, source-of-none}
use Rattle.edges.specs.SourcesOf.{SourcesOf}
use Rattle.edges.specs.inner.DrawnEdges.{Stored}
use Rattle.edges.specs.inner.SourcesLaid.{WrittenLaid, SourceIn, SourcesLaid}
use Rattle.edges.proofs.DrawnEdges.{address-at}

pub listed_more : (g : ℕ → ℕ) (list : List ℕ) (k : ℕ) → k < length list → ((L : ℕ) → L < k → get_or list L 0 ≡ g L) → (s : ℕ) → s ≡ g k → (L : ℕ) → L < k + 1 → get_or (set list k s) L 0 ≡ g L
listed_more g list k l h s e =
    below_more _ k (λ L b. get_or-set_other list k L s 0 (λ d. omega arith) ∙ h L b) (get_or-set_same list k s 0 l ∙ e)

pub sources-laid-none : (f : Frame) (s : List ℕ) → SourcesLaid f 0 s s
sources-laid-none f s = record { long = refl; source = λ L h. absurd (omega arith); rest = λ L _. refl }

pub sources-laid-more : (f : Frame) (k : ℕ) (before s : List ℕ) → SourcesLaid f k before s → k < length s → (v : ℕ) → v ≡ source_of f k → SourcesLaid f (k + 1) before (set s k v)
sources-laid-more f k before s now l v e = record {
  long = length-set s k v ∙ now.long;
  source = listed_more (source_of f) s k l now.source v e;
  rest = λ L h. get_or-set_other s k L v 0 (λ d. omega arith) ∙ now.rest L (omega arith);
}

-- the lowest writer of the load's address that wrote what it reads is its source
module _ (t : Trace) (by values : List ℕ) (now : (a : ℕ) → Stored (frame_of t) by a) (wr : WrittenLaid t t.len values) (L : ℕ) (l : L < t.len) (b : Bool) (v w a r : ℕ)
    (eb : b ≡ (reads (at t L) && not (eqb v w))) (ev : v ≡ read (at t L)) (ew : w ≡ first t (address (at t L))) (ea : a ≡ address (at t L)) (s : SourceIn by a values L v b r) where
  later : So b ↔ (So (reads (at t L)) × (read (at t L) ≡ first t (address (at t L)) → ⊥))
  later =
      let i = and-iff (same-iff {a = reads (at t L)}) (not_iff (so-eq {m = v} {n = w})) in (
        λ u. let h = i.0 (sym eb ∙ u) in (h.0, λ e. h.1 (ev ∙ e ∙ sym ew)),
        λ h. eb ∙ i.1 (h.0, λ e. h.1 (sym ev ∙ e ∙ ew)),
      )

  parts : (k : ℕ) → So (source? (frame_of t) k L)
      ↔ ((((k < t.len) × (L < t.len)) × (k ≡ L → ⊥))
      × ((((So (writes (at t k)) × (address (at t k) ≡ address (at t L))) × So (reads (at t L))) × (read (at t L) ≡ written (at t k))) × (read (at t L) ≡ first t (address (at t L)) → ⊥)))
  unfolding reads_from
  parts k =
      let near = and-iff (and-iff (so-lt {m = k} {n = t.len}) (so-lt {m = L} {n = t.len})) (not_iff (so-eq {m = k} {n = L})) in
      let from = and-iff (and-iff (and-iff (and-iff (same-iff {a = writes (at t k)}) so-eq) (same-iff {a = reads (at t L)})) so-eq) (not_iff so-eq) in
      let p = and-iff near from in
      (λ u. p.0 (sym (source-parts t k L) ∙ u), λ h. source-parts t k L ∙ p.1 h)

  row : (k : ℕ) → So (source? (frame_of t) k L) → So b × So (bit by a k) × (k ≡ L → ⊥) × (get_or values k 0 ≡ v)
  row k u =
      let h = (parts k).0 u in
      let kl = h.0.0.0 in
      (later.1 (h.1.0.0.1, h.1.1), (now a k).1 ((writes-iff t k).1 (kl, h.1.0.0.0.0), sym (address-at t k k (address (at t k)) refl) ∙ h.1.0.0.0.1 ∙ sym ea), h.0.1, wr.value k kl ∙ sym h.1.0.1 ∙ sym ev)

  back : (k : ℕ) → So b → So (bit by a k) → (k ≡ L → ⊥) → get_or values k 0 ≡ v → So (source? (frame_of t) k L)
  back k u q d e =
      let h = (now a k).0 q in
      let w = (writes-iff t k).0 h.0 in
      let g = later.0 u in
      (parts k).1 (((w.0, l), d), ((((w.1, address-at t k k (address (at t k)) refl ∙ h.1 ∙ ea), g.0), sym ev ∙ sym e ∙ wr.value k w.0), g.1))

  pub source-laid : r ≡ source_of (frame_of t) L
  source-laid = elim s.there [
    | inl (u, q, d, e) ↦ sym (source-of-found (frame_of t) L r (bit-bounds by a r q).1 (back r u q d e) (λ k h. off (λ x. let g = row k x in s.none g.0 k h g.1 g.2 g.3)))
    | inr e ↦ e ∙ sym (source-of-none (frame_of t) L (λ k h. off (λ x. let g = row k x in s.none g.0 k (omega arith) g.1 g.2 g.3)))
  ]

pub source-of-past : (t : Trace) (L : ℕ) → t.len ≤ L → source_of (frame_of t) L ≡ RECORDS
unfolding reads_from
source-of-past t L h = source-of-none (frame_of t) L (λ k _. off (λ u.
    let p = (and-iff (and-iff (and-iff (so-lt {m = k} {n = t.len}) (so-lt {m = L} {n = t.len})) (not_iff (so-eq {m = k} {n = L}))) same-iff).0 (sym (source-parts t k L) ∙ u) in
    omega (arith, p.0.0.1)))

pub sources-all : (t : Trace) (r : List ℕ) → t.len ≤ RECORDS → SourcesLaid (frame_of t) t.len (replicate RECORDS RECORDS) r → SourcesOf t r
sources-all t r h l = record {
  long = l.long ∙ length-replicate RECORDS RECORDS;
  source = λ _ L b. elim (dec_lt L t.len) [
    | yes a ↦ l.source L a
    | no a ↦ l.rest L (omega arith) ∙ get_or-replicate RECORDS L RECORDS 0 b ∙ sym (source-of-past t L (omega arith))
  ];
  other = λ d. absurd (omega arith);
}

pub sources-other : (t : Trace) → RECORDS < t.len → SourcesOf t (replicate RECORDS RECORDS)
sources-other t h = record { long = length-replicate RECORDS RECORDS; source = λ d. absurd (omega arith); other = λ _ L b. get_or-replicate RECORDS L RECORDS 0 b }

pub sources-one : (t : Trace) (a b : List ℕ) → SourcesOf t a → SourcesOf t b → a ≡ b
sources-one t a b p q = ext_get_or 0 a b (p.long ∙ sym q.long) (λ L h. elim (dec_lt RECORDS t.len) [
  | yes d ↦ p.other d L (omega (arith, p.long)) ∙ sym (q.other d L (omega (arith, p.long)))
  | no d ↦ p.source (omega arith) L (omega (arith, p.long)) ∙ sym (q.source (omega arith) L (omega (arith, p.long)))
])
