-- Whom a load or swap reads from.
--
--   source-parts                     == the test of a source, as a function reads it off two records
--   source-of-found, source-of-none  == what a loop over the records learns
--   source-of-is                     == a record that it is, is a source
--   source-of-has                    == in a good frame a source is the one
--   source-of-idle                   == what does not read has none
use mathlib.Core.Path.{◌≡◌, sym, ap, ◌∙◌}
use mathlib.Core.Bool.{false, So, not, ◌&&◌, false≢true}
use mathlib.Core.Option.{Option, none, some}
use Prim.Native.Nat.{ℕ, ◌<◌, ◌≤◌}
use native.Mathlib.Decide.{dec_lt}
use native.Mathlib.Omega.{arith}
use lib.Dec.{eqb, ltb}
use Rattle.laws.specs.Lowest.{Lowest, lowest}
use Rattle.laws.proofs.Tests.{off, and-iff, not_iff, same-iff, so-eq, so-lt, test-one}
use Rattle.laws.proofs.Lowest.{lowest-one, lowest-iff}
use Rattle.trace.specs.Bounds.{RECORDS}
use Rattle.trace.specs.Op.{address, reads, writes}
use Rattle.trace.specs.Trace.{at, first}
use Rattle.rules.specs.Frame.{Frame, Good, Source}
use Rattle.trace.specs.Meaning.{frame_of}
use Rattle.trace.specs.declared.Trace.{Trace}
use Rattle.trace.proofs.Meaning.{reads-iff, writes-iff}
use Rattle.rules.specs.RuleTests.{source?}
use Rattle.pairs.specs.SourceOf.{reads_from, source_of}
use Rattle.rules.proofs.RuleTests.{source-iff}
use Rattle.rules.proofs.Missing.{source_one}

pub source-parts : (t : Trace) (S L : ℕ) → source? (frame_of t) S L ≡ (ltb S t.len && ltb L t.len && not (eqb S L) && reads_from (at t S) (at t L) (first t (address (at t L))))
unfolding reads_from frame_of
source-parts t S L =
    let near = and-iff (and-iff (so-lt {m = S} {n = t.len}) (so-lt {m = L} {n = t.len})) (not_iff (so-eq {m = S} {n = L})) in
    let from = and-iff (and-iff (and-iff (and-iff (same-iff {a = writes (at t S)}) so-eq) (same-iff {a = reads (at t L)})) so-eq) (not_iff so-eq) in
    let parts = and-iff near from in
    test-one (source-iff (frame_of t) S L) (
      λ s. let p = parts.0 s in
          record {
            writer = record { writes = (writes-iff t S).1 (p.0.0.0, p.1.0.0.0.0); same = p.1.0.0.0.1; other = p.0.1 };
            reads = (reads-iff t L).1 (p.0.0.1, p.1.0.0.1);
            value = p.1.0.1;
            later = p.1.1;
          },
      λ s. let w = (writes-iff t S).0 s.writer.writes in
          let r = (reads-iff t L).0 s.reads in
          parts.1 (((w.0, r.0), s.writer.other), ((((w.1, s.writer.same), r.1), s.value), s.later)),
    )

-- the answer as a number
abbrev pick : Option ℕ → ℕ
pick o = elim o [ some S ↦ S | none ↦ RECORDS ]

module _ (f : Frame) (L : ℕ) where
  abbrev Below : ℕ → Type 0
  Below S = (S < RECORDS) × Source f S L

  found : Lowest Below (lowest (λ S. source? f S L) RECORDS 0)
  found =
      lowest-iff (λ S. source? f S L) Below RECORDS (λ S h. (λ t. (h, (source-iff f S L).0 t), λ b. (source-iff f S L).1 b.1)) (λ S b. b.0) RECORDS 0 (omega arith)
      (λ S b. omega arith)

  pub source-of-found : (S : ℕ) → S < RECORDS → So (source? f S L) → ((k : ℕ) → k < S → source? f k L ≡ false) → source_of f L ≡ S
  unfolding source_of
  source-of-found S h s none_below = ap pick (lowest-one Below (lowest (λ S. source? f S L) RECORDS 0) (some S) found ((h, (source-iff f S L).0 s), lowest-here))
    where
      lowest-here : (k : ℕ) → Below k → S ≤ k
      lowest-here k b = elim (dec_lt k S) [ yes l ↦ absurd (false≢true (sym (none_below k l) ∙ (source-iff f k L).1 b.1)) | no l ↦ omega arith ]

  pub source-of-none : ((k : ℕ) → k < RECORDS → source? f k L ≡ false) → source_of f L ≡ RECORDS
  unfolding source_of
  source-of-none n = ap pick (lowest-one Below (lowest (λ S. source? f S L) RECORDS 0) none found (λ k b. false≢true (sym (n k b.0) ∙ (source-iff f k L).1 b.1)))

  pub source-of-is : source_of f L < RECORDS → Source f (source_of f L) L
  unfolding source_of
  source-of-is = go (lowest (λ S. source? f S L) RECORDS 0) found
    where
      go : (o : Option ℕ) → Lowest Below o → pick o < RECORDS → Source f (pick o) L
      go (some S) b h = b.0.1
      go none b h = absurd (omega arith)

  pub source-of-has : Good f → (S : ℕ) → S < RECORDS → Source f S L → source_of f L ≡ S
  unfolding source_of
  source-of-has g S h s = go (lowest (λ S. source? f S L) RECORDS 0) found
    where
      go : (o : Option ℕ) → Lowest Below o → pick o ≡ S
      go (some R) b = source_one f g R S L b.0.1 s
      go none b = absurd (b S (h, s))

-- what does not read has no source
pub source-of-idle : (t : Trace) (L : ℕ) → reads (at t L) ≡ false → source_of (frame_of t) L ≡ RECORDS
source-of-idle t L r =
    source-of-none (frame_of t) L (λ k h. off (λ s. false≢true (sym r ∙ ((reads-iff t L).0 ((source-iff (frame_of t) k L).0 s).reads).1)))
