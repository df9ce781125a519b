-- What edges and chains join.
--
--   step-ends, chains-ends      == what holds of every operation, and of each end of a kept or supposed pair, holds of each end of an edge and of a chain
--   joins-within                == operations are records of the trace
--   step-within, chains-within  == edges and chains join records, where the pairs do
--   step-joins, held-joins      == they join operations, where the pairs do
use mathlib.Core.Bool.{So}
use Prim.Native.Nat.{ℕ, zero, suc, ◌<◌}
use Rattle.laws.specs.Relation.{Rel, Table, Chain, one, more}
use Rattle.rules.specs.Frame.{Frame, Good, Writer}
use Rattle.rules.specs.Rules.{Gives, rule1, rule2, rule3, rule4, rule5, rule6, rule7, rule8, Step, Chains, Held, InRecords, Joins}

module _ (f : Frame) (g : Good f) (K P : Table) where
  -- A of where an edge begins, B of where it ends
  module _ (A B : ℕ → Type 0) (begins : (x : ℕ) → So (f.operation x) → A x) (ends : (x : ℕ) → So (f.operation x) → B x)
      (kept : (x y : ℕ) → So (K x y) → A x × B y) (supposed : (x y : ℕ) → So (P x y) → A x × B y) where
    pub step-ends : (C : Rel) (x y : ℕ) → Step f K P C x y → A x × B y
    step-ends C x y s = go s.1
      where
        writer : {S L : ℕ} → Writer f S L → So (f.operation S)
        writer {S} w = g.writes S w.writes

        reader : {L : ℕ} → So (f.reads L) → So (f.operation L)
        reader {L} t = g.reads L t

        both : So (f.operation x) → So (f.operation y) → A x × B y
        both a b = (begins x a, ends y b)

        go : {r : ℕ} → Gives f K P C x y r → A x × B y
        go (rule1 k) = kept x y k
        go (rule2 s n) = both (writer s.writer) (reader s.reads)
        go (rule3 L s w d o) = both (writer w) (writer s.writer)
        go (rule4 s) = both (reader s.reads) (writer s.writer)
        go (rule5 s o) = both (writer s.writer) (reader s.reads)
        go (rule6 L s w d h) = both (writer w) (writer s.writer)
        go (rule7 S s w d h) = both (reader s.reads) (writer w)
        go (rule8 k) = supposed x y k

    -- a chain of steps begins and ends as its first and its last step do
    chain-ends : (C : Rel) (x y : ℕ) → Chain (Step f K P C) x y → A x × B y
    chain-ends C x y (one e) = step-ends C x y e
    chain-ends C x y (more {y = z} e c) = ((step-ends C x z e).0, (chain-ends C z y c).1)

    pub chains-ends : (k x y : ℕ) → Chains f K P k x y → A x × B y
    chains-ends zero x y c = absurd c
    chains-ends (suc k) x y c = chain-ends (Chains f K P k) x y c

  module _ (inK : InRecords f K) (in_p : InRecords f P) where
    pub step-within : (C : Rel) (x y : ℕ) → Step f K P C x y → (x < f.records) × (y < f.records)
    step-within = step-ends (λ x. x < f.records) (λ x. x < f.records) g.below g.below inK in_p

    pub chains-within : (k x y : ℕ) → Chains f K P k x y → (x < f.records) × (y < f.records)
    chains-within = chains-ends (λ x. x < f.records) (λ x. x < f.records) g.below g.below inK in_p

  module _ (onK : Joins f K) (onP : Joins f P) where
    pub step-joins : (C : Rel) (x y : ℕ) → Step f K P C x y → So (f.operation x) × So (f.operation y)
    step-joins = step-ends (λ x. So (f.operation x)) (λ x. So (f.operation x)) (λ x t. t) (λ x t. t) onK onP

    pub held-joins : (x y : ℕ) → Held f K P x y → So (f.operation x) × So (f.operation y)
    held-joins x y h = chains-ends (λ x. So (f.operation x)) (λ x. So (f.operation x)) (λ x t. t) (λ x t. t) onK onP h.0 x y h.1

pub joins-within : (f : Frame) → Good f → (K : Table) → Joins f K → InRecords f K
joins-within f g K j x y t = (g.below x (j x y t).0, g.below y (j x y t).1)
