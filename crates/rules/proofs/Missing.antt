-- Sources that are missing, and those that are there.
--
--   source_one  == a load has one source
--   missing-iff == `missing?` says so
--   source-of   == where none is missing, each load that reads another value than the first one has its source
use mathlib.Core.Path.{◌≡◌, sym, ◌∙◌}
use mathlib.Core.Logic.{◌≢◌, inl, inr, ◌↔◌}
use mathlib.Core.Bool.{So, not, ◌&&◌, false≢true}
use Prim.Native.Nat.{ℕ, ◌<◌}
use lib.Dec.{eqb}
use Rattle.laws.specs.Tests.{any}
use Rattle.laws.proofs.Tests.{test, and-iff, not_iff, any-iff, same-iff, so-eq}
use Rattle.rules.specs.Frame.{Frame, Good, Source}
use Rattle.rules.specs.RuleTests.{source?}
use Rattle.rules.specs.Missing.{Missing, Sourced, missing?}
use Rattle.rules.proofs.RuleTests.{source-iff}

module _ (f : Frame) (g : Good f) where
  pub source_one : (S S' L : ℕ) → Source f S L → Source f S' L → S ≡ S'
  source_one S S' L s t = g.once S S' s.writer.writes t.writer.writes (s.writer.same ∙ sym t.writer.same) (sym s.value ∙ t.value)

  some-source : (L : ℕ) → So (any f.records (λ S. source? f S L)) ↔ ((S : ℕ) × Source f S L)
  some-source L =
      let i : So (any f.records (λ S. source? f S L)) ↔ ((S : ℕ) × (S < f.records) × Source f S L) = any-iff (λ S. source-iff f S L) in
      (λ t. let s = i.0 t in (s.0, s.2), λ s. i.1 (s.0, g.below s.0 (g.writes s.0 s.1.writer.writes), s.1))

  pub missing-iff : (L : ℕ) → So (missing? f L) ↔ Missing f L
  unfolding missing?
  missing-iff L =
      let i : So (f.reads L && not (eqb (f.read L) (f.first (f.address L))) && not (any f.records (λ S. source? f S L))) ↔ _
      = and-iff (and-iff same-iff (not_iff so-eq)) (not_iff (some-source L)) in
      (λ t. let r = i.0 t in record { reads = r.0.0; later = r.0.1; nobody = λ S s. r.1 (S, s) }, λ m. i.1 ((m.reads, m.later), λ s. m.nobody s.0 s.1))

  pub source-of : Sourced f → (L : ℕ) → So (f.reads L) → f.read L ≢ f.first (f.address L) → (S : ℕ) × Source f S L
  source-of m L r d =
      elim (test (any f.records (λ S. source? f S L))) [
        | inl t ↦ (some-source L).0 t
        | inr t ↦ absurd (m L (record { reads = r; later = d; nobody = λ S s. false≢true (sym t ∙ (some-source L).1 (S, s)) }))
      ]
