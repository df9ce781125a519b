-- The operations, sorted by a table that settles every load, are a valid order.
--
--   settled-sorted, total-valid == so for a strict order with the edges of rules 1 to 5, or closed under the rules and total
--   held-strict, held-step      == what is held without a contradiction is such an order, and closed under the rules
--   held-valid, held-total      == so where it settles every load, or orders every two operations, there is a valid order that keeps the supposed pairs
--   settled?                    == and where it does not settle them, two writers of one address are held neither way
use mathlib.Core.Path.{◌≡◌, sym, ◌∙◌}
use mathlib.Core.Logic.{◌≢◌, ◌⊎◌, inl, inr, ◌↔◌}
use mathlib.Core.Bool.{Bool, false, not, So, ◌&&◌, false≢true}
use Prim.Native.Nat.{ℕ, ◌<◌}
use lib.Dec.{eqb}
use Rattle.laws.specs.Tests.{any}
use Rattle.laws.specs.Relation.{Table, ◌⊆◌, Transitive}
use Rattle.laws.specs.inner.Sorted.{On, sorted}
use Rattle.laws.proofs.Tests.{test, and-iff, not_iff, any-iff, same-iff, so-eq}
use Rattle.laws.proofs.Sorted.{sorted-once, sorted-keeps}
use Rattle.rules.specs.Frame.{Frame, Good, Writer, Source}
use Rattle.rules.specs.Order.{Keeps, Valid}
use Rattle.rules.specs.Rules.{rule7, rule8, Step, Chains, Edge, Contradicted, nothing}
use Rattle.rules.specs.RuleTests.{source?, writer?}
use Rattle.rules.specs.Closing.{Closing}
use Rattle.rules.specs.Missing.{Sourced}
use Rattle.rules.proofs.ClearOrders.{SettlesLoads, Total, Strict}
use Rattle.rules.proofs.Rounds.{step-mono, held-join, held-closed}
use Rattle.rules.proofs.Ends.{chains-ends}
use Rattle.rules.proofs.RuleTests.{source-iff, writer-iff}
use Rattle.rules.proofs.Clear.{settled-valid, total-settles, closed-base}

module _ (f : Frame) (g : Good f) (K H : Table) (m : Sourced f) (o : Strict f H) where
  pub settled-sorted : Edge f K nothing 0 ⊆ On H → SettlesLoads f (On H) → Valid f K (sorted f.operation H f.records)
  settled-sorted base t = settled-valid f g K (On H) m base t (sorted f.operation H f.records) (sorted-once f.operation H f.records g.below)
      (λ x y h. sorted-keeps f.operation H o.join o.never f.records g.below x y (o.starts x y h) h)

  pub total-valid : (P : Table) → Step f K P (On H) ⊆ On H → Total f (On H) → Valid f K (sorted f.operation H f.records)
  total-valid P h t = settled-sorted (closed-base f g K (On H) P h) (total-settles f g K (On H) P h t)

-- Such is a held table that is not contradicted, over any supposed pairs; kept and supposed pairs lead from operations
module _ (f : Frame) (g : Good f) (K P : Table) (kept : (x y : ℕ) → So (K x y) → So (f.operation x)) (supposed : (x y : ℕ) → So (P x y) → So (f.operation x)) where
  chains-starts : (k x y : ℕ) → Chains f K P k x y → So (f.operation x)
  chains-starts k x y c =
      (chains-ends f g K P (λ x. So (f.operation x)) (λ x. Unit {0}) (λ x t. t) (λ x t. tt) (λ x y t. (kept x y t, tt)) (λ x y t. (supposed x y t, tt)) k x y c).0

  module _ (t : Table) (h : Closing f K P false t) where
    clear : Contradicted f K P → ⊥
    clear c = false≢true (h.contradicted.1 c)

    pub held-strict : Strict f t
    unfolding Transitive
    held-strict = record {
      join = λ x y z a b. (h.held x z).1 (held-join f K P x y z ((h.held x y).0 a).0 ((h.held y z).0 b).0, clear);
      never = λ x a. clear (x, ((h.held x x).0 a).0);
      starts = λ x y a. let k = ((h.held x y).0 a).0 in chains-starts k.0 x y k.1;
    }

    pub held-step : Step f K P (On t) ⊆ On t
    held-step x y s = (h.held x y).1 (held-closed f K P x y (step-mono f K P (λ x y a. ((h.held x y).0 a).0) x y s), clear)

    pub held-valid : Sourced f → SettlesLoads f (On t) → Valid f K (sorted f.operation t f.records) × Keeps P (sorted f.operation t f.records)
    held-valid m u = (
      settled-sorted f g K t m held-strict (closed-base f g K (On t) P held-step) u,
      λ x y k. sorted-keeps f.operation t held-strict.join held-strict.never f.records g.below x y (supposed x y k) (held-step x y (8, rule8 k)),
    )

    pub held-total : Sourced f → Total f (On t) → Valid f K (sorted f.operation t f.records) × Keeps P (sorted f.operation t f.records)
    held-total m u = held-valid m (total-settles f g K (On t) P held-step u)

    -- whoever splits cases has a pair to split on
    pub settled? : SettlesLoads f (On t) ⊎ ((S : ℕ) × (S' : ℕ) × So (f.writes S) × Writer f S' S × (So (t S S') → ⊥) × (So (t S' S) → ⊥))
    settled? = elim (test open?) [ inl u ↦ inr (split (is.0 u)) | inr u ↦ inl (λ S S' L s w d. settle S S' L s w d u) ]
      where
        open? : Bool
        open? = any f.records (λ L. any f.records (λ S. any f.records (λ S'. source? f S L && writer? f S' L && not (eqb S' S) && not (t S S') && not (t S' S))))

        Open : ℕ → ℕ → ℕ → Type 0
        Open L S S' = (((Source f S L × Writer f S' L) × (S' ≢ S)) × (So (t S S') → ⊥)) × (So (t S' S) → ⊥)

        is : So open? ↔ ((L : ℕ) × (L < f.records) × ((S : ℕ) × (S < f.records) × ((S' : ℕ) × (S' < f.records) × Open L S S')))
        is = any-iff (λ L. any-iff (λ S. any-iff (λ S'. and-iff (and-iff (and-iff (and-iff (source-iff f S L) (writer-iff f S' L)) (not_iff so-eq)) (not_iff same-iff)) (not_iff same-iff))))

        split : ((L : ℕ) × (L < f.records) × ((S : ℕ) × (S < f.records) × ((S' : ℕ) × (S' < f.records) × Open L S S')))
            → (S : ℕ) × (S' : ℕ) × So (f.writes S) × Writer f S' S × (So (t S S') → ⊥) × (So (t S' S) → ⊥)
        split (L, _, (S, _, (S', _, ((((s, w), d), a), b)))) = (S, S', s.writer.writes, record { writes = w.writes; same = w.same ∙ sym s.writer.same; other = d }, a, b)

        settle : (S S' L : ℕ) → Source f S L → Writer f S' L → S' ≢ S → open? ≡ false → So (t S' S) ⊎ So (t L S')
        settle S S' L s w d u = elim (test (t S' S)) [
          | inl a ↦ inl a
          | inr a ↦ elim (test (t S S')) [
            | inl b ↦ inr (held-step L S' (7, rule7 S s w d b))
            | inr b ↦ absurd (false≢true (sym u ∙ is.1 (
              L,
              g.below L (g.reads L s.reads),
              (
                S,
                g.below S (g.writes S s.writer.writes),
                (
                  S',
                  g.below S' (g.writes S' w.writes),
                  ((((s, w), d), λ z. false≢true (sym b ∙ z)), λ z. false≢true (sym a ∙ z)),
                ),
              ),
            )))
          ]
        ]
