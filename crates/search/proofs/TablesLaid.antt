-- The tables are laid.
--
--   filled       == what is held, turned round
--   up_to f k     == how many operations there are below k
--   Counting f k ops m == ops is the set of the operations below k, and m their number
--   counting-none, counting_more, counting-skip, counted == record by record, and past the last one
--   sources-read == what is given for the sources of a well formed trace
--   lacks-read   == a record lacks its source, as it is read off the trace and the sources
use mathlib.Core.Path.{◌≡◌, refl, sym, ap, ◌∙◌, subst}
use mathlib.Core.Logic.{inl, inr, ◌↔◌}
use mathlib.Core.Bool.{Bool, false, So, cond, not, ◌&&◌, false≢true}
use mathlib.Core.List.{List}
use Prim.Native.Nat.{ℕ, ◌+◌, ◌<◌, ◌≤◌}
use native.Mathlib.Numerals.{add-one}
use native.Mathlib.Omega.{arith}
use lib.Dec.{eqb, leb}
use lib.ListN.{length}
use Rattle.laws.specs.Sums.{sum}
use Rattle.laws.proofs.Tests.{eq?, so-lt}
use Rattle.trace.specs.Bounds.{RECORDS}
use Rattle.rules.specs.Frame.{Frame}
use Rattle.trace.specs.Meaning.{frame_of}
use Rattle.trace.specs.Op.{address, read, reads}
use Rattle.trace.specs.Trace.{at, first}
use Rattle.trace.specs.WellFormed.{well_formed}
use Rattle.trace.specs.declared.Trace.{Trace}
use Rattle.trace.proofs.Meaning.{operation-iff}
use Rattle.rows.specs.Bounds.{WORDS, CELLS}
use Rattle.rows.specs.Rows.{bit}
use Rattle.rows.specs.Empty.{empty_of}
use Rattle.rows.specs.Put.{put_of}
use Rattle.rows.specs.TurnedRound.{TurnedRound}
use Rattle.rows.proofs.Whole.{empty-bit, empty-long}
use Rattle.rules.specs.Missing.{missing?}
use Rattle.pairs.specs.SourceOf.{source_of}
use Rattle.rules.specs.Ready.{operations}
use Rattle.pairs.proofs.MissingOf.{lacks-parts}
use Rattle.edges.specs.SourcesOf.{SourcesOf}
use Rattle.pairs.proofs.ValidOrders.{well-fits}
use Rattle.search.specs.inner.TablesLaid.{Filled, Counted, Sources}
use Rattle.rows.proofs.Sets.{put-more}

pub filled : (rows : List ℕ) (n : ℕ) (before after : List ℕ) → length before ≡ CELLS → TurnedRound rows n before after → Filled n (bit rows) after
filled rows n before after l t = record { pairs = t.pairs l }

abbrev pub up_to : Frame → ℕ → ℕ
up_to f k = sum k (λ x. cond (f.operation x) 1 0)

pub record Counting (f : Frame) (k : ℕ) (ops : List ℕ) (m : ℕ) : Type 0 where
  pub long : length ops ≡ WORDS
  pub total : m ≡ up_to f k
  pub few : m ≤ k
  pub has : (x : ℕ) → So (bit ops 0 x) ↔ ((x < k) × So (f.operation x))

pub counting-none : (f : Frame) (ops : List ℕ) → ops ≡ empty_of WORDS → Counting f 0 ops 0
unfolding sum
counting-none f ops e = rw e (record { long = empty-long WORDS; total = refl; few = omega arith; has = λ x. (λ t. absurd (false≢true (sym (empty-bit WORDS 0 x) ∙ t)), λ h. absurd (omega (arith, h.0))) })

module _ (f : Frame) (k : ℕ) (ops : List ℕ) (m : ℕ) (now : Counting f k ops m) where
  step : (b : Bool) → f.operation k ≡ b → up_to f (k + 1) ≡ cond b 1 0 + up_to f k
  unfolding sum
  step b e = rw (add-one, sum, e) refl

  pub counting_more : So (f.operation k) → k < RECORDS → Counting f (k + 1) (put_of ops 0 k) (m + 1)
  counting_more t l =
      let more = put-more ops k now.long l in
      record {
        long = more.long;
        total = omega (arith, step _ t, now.total);
        few = omega (arith, now.few);
        has = λ x. (
          λ u. elim ((more.has x).0 u) [ inl v ↦ let h = (now.has x).0 v in (omega (arith, h.0), h.1) | inr e ↦ (omega arith, rw e t) ],
          λ h. (more.has x).1 (elim (eq? x k) [ inl e ↦ inr e | inr d ↦ inl ((now.has x).1 (omega (arith, h.0), h.1)) ]),
        );
      }

  pub counting-skip : f.operation k ≡ false → Counting f (k + 1) ops m
  counting-skip t = record {
    long = now.long;
    total = omega (arith, step _ t, now.total);
    few = omega (arith, now.few);
    has = λ x. (
      λ u. let h = (now.has x).0 u in (omega (arith, h.0), h.1),
      λ h. (now.has x).1 (elim (eq? x k) [ inl e ↦ absurd (false≢true (sym t ∙ ap f.operation (sym e) ∙ h.1)) | inr d ↦ omega (arith, h.0) ], h.1),
    );
  }

pub counted : (t : Trace) (k : ℕ) (ops : List ℕ) (m : ℕ) → k ≡ t.len → Counting (frame_of t) k ops m → Counted (frame_of t) ops m
unfolding operations frame_of
counted t k ops m e now = record {
  total = now.total ∙ ap (up_to (frame_of t)) e;
  has = λ x. (λ u. ((now.has x).0 u).1, λ u. (now.has x).1 (omega (arith, ((operation-iff t x).0 u).0), u));
}

pub lacks-read : (t : Trace) → So (well_formed t) → (L : ℕ) → L < t.len → (a : Bool) (v u s : ℕ) → a ≡ reads (at t L) → v ≡ read (at t L) → u ≡ first t (address (at t L)) → s ≡ source_of (frame_of t) L
    → (a && not (eqb v u) && leb RECORDS s) ≡ missing? (frame_of t) L
lacks-read t w L l a v u s p q r o = rw (p, q, r, o) (
    subst (λ (b : Bool). (b && reads (at t L) && not (eqb (read (at t L)) (first t (address (at t L)))) && leb RECORDS (source_of (frame_of t) L)) ≡ missing? (frame_of t) L) (so-lt.1 l) (lacks-parts t w L)
    )

pub sources-read : (t : Trace) → So (well_formed t) → (r : List ℕ) → SourcesOf t r → Sources (frame_of t) t.len r
sources-read t w r s = let h = well-fits t w in record { long = s.long; source = λ L l. s.source h L (omega arith) }
