-- A valid order that keeps the supposed pairs keeps every edge and every chain of every round.
--
--   source-latest                         == a load's source is the latest of the writers that its value is taken from
--   first-none                            == a load that reads the first value has no such writer
--   before-source                         == another writer that is early for a load comes before the load's source
--   gives-sound, edge-sound, chains-sound == edges and chains are kept
--   held-sound                            == what is held is so in every such order
--   contradicted-none                     == contradicted, there is no such order
use mathlib.Core.Path.{◌≡◌, sym, ap, ◌∙◌, subst}
use mathlib.Core.Logic.{◌≢◌, ◌⊎◌, inl, inr}
use mathlib.Core.Bool.{So}
use mathlib.Core.List.{List}
use Prim.Native.Nat.{ℕ, zero, suc, ◌≤◌}
use native.Mathlib.Omega.{arith}
use Rattle.laws.specs.Places.{pos, Before}
use Rattle.laws.specs.Relation.{Rel, Table, ◌⊆◌, Chain, one, more}
use Rattle.rules.specs.Frame.{Frame, Good, Writer, Source, First}
use Rattle.rules.specs.Order.{Visible, Sees, nobody, latest, Keeps, Valid}
use Rattle.rules.specs.Rules.{Gives, rule1, rule2, rule3, rule4, rule5, rule6, rule7, rule8, Chains, Edge, Held, Contradicted}
use Rattle.rules.proofs.Orders.{apart, either}

module _ (f : Frame) (g : Good f) (K : Table) (xs : List ℕ) (v : Valid f K xs) where
  pub source-latest : {S L : ℕ} → Source f S L → Visible f xs S L × ((S' : ℕ) → Visible f xs S' L → pos xs S' ≤ pos xs S)
  source-latest {S} {L} s = go (v.value L s.reads)
    where
      go : Sees f xs L (f.read L) → Visible f xs S L × ((S' : ℕ) → Visible f xs S' L → pos xs S' ≤ pos xs S)
      go (nobody e h) = absurd (s.later e)
      go (latest S₁ e c h) =
          let q : S₁ ≡ S = g.once S₁ S c.writer.writes s.writer.writes (c.writer.same ∙ sym s.writer.same) (sym e ∙ s.value) in
          (subst (λ (S : ℕ). Visible f xs S L) q c, λ S' k. rw q at (h S' k))

  pub first-none : {S L : ℕ} → First f S L → Visible f xs S L → ⊥
  first-none {S} {L} s = go (v.value L s.reads)
    where
      go : Sees f xs L (f.read L) → Visible f xs S L → ⊥
      go (nobody e h) c = h S c
      go (latest S₁ e k h) c = g.fresh S₁ k.writer.writes (sym e ∙ s.value ∙ ap f.first (sym k.writer.same))

  pub before-source : {S S' L : ℕ} → Source f S L → Writer f S' L → S' ≢ S → Before xs S' L ⊎ So (f.earlier S' L) → Before xs S' S
  before-source {S} {S'} s w d e =
      omega (arith, (source-latest s).1 S' (record { writer = w; early = e }), apart f xs v.all S' S (g.writes S' w.writes) d)

  module _ (P : Table) (p : Keeps P xs) where
    -- what a rule gives from chains that are kept is kept
    pub gives-sound : (C : Rel) → C ⊆ Before xs → {x y r : ℕ} → Gives f K P C x y r → Before xs x y
    gives-sound C c {x} {y} (rule1 k) = v.kept x y k
    gives-sound C c {x} {y} (rule2 s n) = elim (source-latest s).0.early [ inl h ↦ h | inr h ↦ absurd (n h) ]
    gives-sound C c {x} {y} (rule3 L s w d o) = before-source s w d (inr o)
    gives-sound C c {x} {y} (rule4 s) =
        elim (either f xs v.all (g.writes y s.writer.writes) s.writer.other) [ inl h ↦ absurd (first-none s (record { writer = s.writer; early = inl h })) | inr h ↦ h ]
    gives-sound C c {x} {y} (rule5 s o) = absurd (first-none s (record { writer = s.writer; early = inr o }))
    gives-sound C c {x} {y} (rule6 L s w d h) = before-source s w d (inl (c x L h))
    gives-sound C c {x} {y} (rule7 S s w d h) =
        elim (either f xs v.all (g.writes y w.writes) w.other) [ inl l ↦ omega (arith, before-source s w d (inl l), c S y h) | inr l ↦ l ]
    gives-sound C c {x} {y} (rule8 k) = p x y k

    chain-sound : (E : Rel) → E ⊆ Before xs → {x y : ℕ} → Chain E x y → Before xs x y
    chain-sound E e (one {x} {y} h) = e x y h
    chain-sound E e (more {x} {y} h t) = omega (arith, e x y h, chain-sound E e t)

    pub chains-sound : (k : ℕ) → Chains f K P k ⊆ Before xs
    chains-sound zero x y h = absurd h
    chains-sound (suc k) x y h = chain-sound (Edge f K P k) (λ x y h. gives-sound (Chains f K P k) (chains-sound k) h.1) h

    pub edge-sound : (k : ℕ) → Edge f K P k ⊆ Before xs
    edge-sound k x y h = gives-sound (Chains f K P k) (chains-sound k) h.1

    pub held-sound : Held f K P ⊆ Before xs
    held-sound x y h = chains-sound h.0 x y h.1

pub contradicted-none : (f : Frame) → Good f → (K P : Table) → Contradicted f K P → (xs : List ℕ) → Valid f K xs → Keeps P xs → ⊥
contradicted-none f g K P c xs v p = omega (arith, held-sound f g K xs v P p c.0 c.0 c.1)
