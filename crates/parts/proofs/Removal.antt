-- What one removal takes.
--
--   goes-iff       == the test says what it means
--   goes_self      == a record goes where it goes
--   Closed f A     == A has the source of each load and swap that it has
--   removed-closed == a removal takes whoever read from what went
use mathlib.Core.Path.{refl, sym, subst}
use mathlib.Core.Logic.{◌↔◌, inl, inr}
use mathlib.Core.Bool.{So}
use Prim.Native.Nat.{ℕ, ◌<◌}
use Rattle.laws.specs.Relation.{one}
use Rattle.laws.proofs.Relation.{chain-join}
use Rattle.laws.proofs.Warshall.{chains-iff}
use Rattle.laws.proofs.Tests.{or-iff, so-eq}
use Rattle.rules.specs.Frame.{Frame, Good, Source}
use Rattle.rules.proofs.RuleTests.{source-iff}
use Rattle.parts.specs.Removal.{Set, Goes}
use Rattle.parts.specs.inner.RemovalTests.{goes?}
use Rattle.parts.specs.CutDown.{Removed}

abbrev pub Closed : Frame → Set → Type 0
Closed f A = (S L : ℕ) → Source f S L → So (A L) → So (A S)

pub goes-iff : (f : Frame) → Good f → (i x : ℕ) → So (goes? f i x) ↔ Goes f i x
unfolding goes?
goes-iff f g i x = or-iff so-eq (chains-iff (Source f) f.records _ rows (λ S L _ _. source-iff f S L) i x)
  where
    rows : (S L : ℕ) → Source f S L → (S < f.records) × (L < f.records)
    rows S L s = (g.below S (g.writes S s.writer.writes), g.below L (g.reads L s.reads))

pub goes_self : (f : Frame) (i : ℕ) → Goes f i i
goes_self f i = inl refl

pub removed-closed : (f : Frame) (A B : Set) (i : ℕ) → Removed (Goes f) A i B → Closed f A → Closed f B
removed-closed f A B i p c S L s t =
    let q = (p L).0 t in
    (p S).1 (c S L s q.0, λ h. q.1 (inr (elim h [ inl e ↦ one (subst (λ (S : ℕ). Source f S L) (sym e) s) | inr d ↦ chain-join d (one s) ])))
