-- The record that lacks its source.
--
--   source-past    == the test that no record is a load's source, as the function of sources tells it
--   lacks-parts    == the test of a record that lacks its source, as a function reads it off the trace
--   unformed, found_at, found_none == how a loop over the records comes to the answer
--   missing-lowest == of a well formed trace `missing_of` is the lowest record that lacks its source, or that none does
use mathlib.Core.Path.{◌≡◌, ap, subst, sym, ◌∙◌}
use mathlib.Core.Logic.{◌↔◌}
use mathlib.Core.Bool.{false, So, cond, not, ◌&&◌}
use mathlib.Core.Option.{Option, none, some}
use Prim.Native.Nat.{ℕ, ◌<◌, ◌≤◌}
use native.Mathlib.Decide.{dec_lt}
use native.Mathlib.Omega.{arith}
use lib.Dec.{eqb, ltb, leb}
use Rattle.laws.specs.Tests.{any}
use Rattle.laws.specs.Lowest.{Lowest, lowest}
use Rattle.laws.proofs.Tests.{test-one, any-iff, not_iff, so-le}
use Rattle.laws.proofs.Lowest.{lowest-iff}
use Rattle.laws.proofs.LowestLoops.{NoneBelow, lowest-found, lowest-nothing}
use Rattle.trace.specs.Bounds.{RECORDS}
use Rattle.rules.specs.Frame.{Frame, Good, Source}
use Rattle.trace.specs.Op.{address, read, reads}
use Rattle.trace.specs.Trace.{at, first}
use Rattle.trace.specs.Meaning.{frame_of}
use Rattle.trace.specs.WellFormed.{well_formed}
use Rattle.trace.specs.declared.Trace.{Trace}
use Rattle.trace.proofs.Good.{good}
use Rattle.rules.specs.RuleTests.{source?}
use Rattle.pairs.specs.SourceOf.{source_of}
use Rattle.rules.specs.Missing.{Missing, missing?}
use Rattle.rules.proofs.RuleTests.{source-iff}
use Rattle.pairs.proofs.SourceOf.{source-of-is, source-of-has}
use Rattle.rules.proofs.Missing.{missing-iff}
use Rattle.pairs.specs.MissingOf.{as_found, record?, missing_of}
use Rattle.pairs.specs.Found.{Found}
use Rattle.std.specs.Prelude.{Some, None}
use Rattle.pairs.proofs.ValidOrders.{well-fits}

pub source-past : (f : Frame) → Good f → f.records ≤ RECORDS → (L : ℕ) → leb RECORDS (source_of f L) ≡ not (any f.records (λ S. source? f S L))
source-past f g fits L = test-one so-le (λ t. past (none.0 t), λ h. none.1 (λ s. clash h s))
  where
    none : So (not (any f.records (λ S. source? f S L))) ↔ ((S : ℕ) × (S < f.records) × Source f S L → ⊥)
    none = not_iff (any-iff (λ S. source-iff f S L))

    past : ((S : ℕ) × (S < f.records) × Source f S L → ⊥) → RECORDS ≤ source_of f L
    past n = elim (dec_lt (source_of f L) RECORDS) [
      | yes h ↦ let s = source-of-is f L h in absurd (n (source_of f L, g.below (source_of f L) (g.writes (source_of f L) s.writer.writes), s))
      | no h ↦ omega arith
    ]

    clash : RECORDS ≤ source_of f L → (S : ℕ) × (S < f.records) × Source f S L → ⊥
    clash h (S, l, s) = omega (arith, source-of-has f L g S (omega arith) s)

pub lacks-parts : (t : Trace) → So (well_formed t) → (L : ℕ)
    → (ltb L t.len && reads (at t L) && not (eqb (read (at t L)) (first t (address (at t L)))) && leb RECORDS (source_of (frame_of t) L)) ≡ missing? (frame_of t) L
unfolding missing? frame_of
lacks-parts t w L =
    ap (λ b. ltb L t.len && reads (at t L) && not (eqb (read (at t L)) (first t (address (at t L)))) && b) (source-past (frame_of t) (good t w) (well-fits t w) L)

module _ (t : Trace) where
  pub unformed : well_formed t ≡ false → None ≡ missing_of t
  unfolding missing_of
  unformed e = sym (ap (λ b. cond b (as_found (lowest (missing? (frame_of t)) t.len 0)) None) e)

  module _ (w : So (well_formed t)) where
    -- the answer of a well formed trace
    sought : as_found (lowest (missing? (frame_of t)) t.len 0) ≡ missing_of t
    unfolding missing_of
    sought = sym (ap (λ b. cond b (as_found (lowest (missing? (frame_of t)) t.len 0)) None) w)

    pub found_at : (i : ℕ) → NoneBelow (missing? (frame_of t)) i → i < t.len → So (missing? (frame_of t) i) → Some i ≡ missing_of t
    found_at i h l u = sym (ap as_found (lowest-found (missing? (frame_of t)) t.len i h l u)) ∙ sought

    pub found_none : (i : ℕ) → NoneBelow (missing? (frame_of t)) i → t.len ≤ i → None ≡ missing_of t
    found_none i h l = sym (ap as_found (lowest-nothing (missing? (frame_of t)) t.len i h l)) ∙ sought

pub missing-lowest : (t : Trace) → So (well_formed t) → Lowest (Missing (frame_of t)) (record? (missing_of t))
unfolding frame_of
missing-lowest t w = subst (λ (a : Found). Lowest (Missing (frame_of t)) (record? a)) (sought t w) (same (lowest (missing? (frame_of t)) t.len 0) least)
  where
    g : Good (frame_of t)
    g = good t w

    least : Lowest (Missing (frame_of t)) (lowest (missing? (frame_of t)) t.len 0)
    least = lowest-iff (missing? (frame_of t)) (Missing (frame_of t)) t.len (λ x _. missing-iff (frame_of t) g x) (λ x m. g.below x (g.reads x m.reads)) t.len 0 (omega arith) (λ y m. omega arith)

    same : (o : Option ℕ) → Lowest (Missing (frame_of t)) o → Lowest (Missing (frame_of t)) (record? (as_found o))
    same (some x) h = h
    same none h = h
