-- Whom a record reads from, and whom not.
--
--   source-other    == no record that wrote another value is a source
--   source-of-first == what reads the first value of its address has none
--   source-at       == the test of a source, as a loop reads it off two records
use mathlib.Core.Path.{◌≡◌, sym, ◌∙◌}
use mathlib.Core.Bool.{Bool, false, not, ◌&&◌}
use Prim.Native.Nat.{ℕ}
use lib.Dec.{eqb, ltb}
use Rattle.laws.proofs.Tests.{off}
use Rattle.trace.specs.Bounds.{RECORDS}
use Rattle.trace.specs.Op.{address, read, written}
use Rattle.trace.specs.Trace.{at, first}
use Rattle.trace.specs.Meaning.{frame_of}
use Rattle.trace.specs.declared.Op.{Op}
use Rattle.trace.specs.declared.Trace.{Trace}
use Rattle.rules.specs.RuleTests.{source?}
use Rattle.pairs.specs.SourceOf.{reads_from, source_of}
use Rattle.rules.proofs.RuleTests.{source-iff}
use Rattle.pairs.proofs.SourceOf.{source-parts, source-of-none}

module _ (t : Trace) (L v : ℕ) (is : v ≡ read (at t L)) where
  pub source-other : (S w : ℕ) → w ≡ written (at t S) → (w ≡ v → ⊥) → source? (frame_of t) S L ≡ false
  unfolding frame_of
  source-other S w q d = off (λ s. d (q ∙ sym ((source-iff (frame_of t) S L).0 s).value ∙ sym is))

  pub source-of-first : (b : ℕ) → b ≡ first t (address (at t L)) → v ≡ b → source_of (frame_of t) L ≡ RECORDS
  unfolding frame_of
  source-of-first b q e = source-of-none (frame_of t) L (λ k h. off (λ s. ((source-iff (frame_of t) k L).0 s).later (sym is ∙ e ∙ q)))

pub source-at : (t : Trace) (S L : ℕ) (b : Op) (v : ℕ) (r : Bool) → b ≡ at t L → v ≡ first t (address (at t L)) → r ≡ reads_from (at t S) b v
    → (ltb S t.len && ltb L t.len && not (eqb S L) && r) ≡ source? (frame_of t) S L
source-at t S L b v r p q e = rw (e, p, q) (sym (source-parts t S L))
