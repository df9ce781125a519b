-- Valid orders without values: over the edges of rules 1 to 5 one thing is left to ask, that no writer comes between a load and its source.
--
--   clear-valid, valid-clear == all there, those edges kept and nobody between: these are the valid orders
--   closed-base              == what the rules close has the edges of rules 1 to 5
--   settled-valid            == where a relation with those edges settles every load, every list that keeps it is a valid order
--   total-settles            == what the rules close and what orders every two operations settles every load
use mathlib.Core.Path.{◌≡◌, sym, ap, ◌∙◌}
use mathlib.Core.Logic.{◌⊎◌, inl, inr}
use mathlib.Core.Bool.{So, false≢true}
use mathlib.Core.List.{List}
use Prim.Native.Nat.{ℕ, ◌≤◌}
use native.Mathlib.Omega.{arith}
use Rattle.laws.specs.Places.{pos, Before}
use Rattle.laws.specs.Relation.{Rel, Table, ◌⊆◌}
use Rattle.laws.proofs.Tests.{test, eq?}
use Rattle.rules.specs.Frame.{Frame, Good, Source, First}
use Rattle.rules.specs.Order.{Visible, Sees, nobody, latest, Once, Valid}
use Rattle.rules.specs.Rules.{rule1, rule2, rule3, rule4, rule5, rule7, Step, Edge, nothing}
use Rattle.rules.specs.Missing.{Sourced}
use Rattle.rules.proofs.ClearOrders.{Clear, SettlesLoads, Total}
use Rattle.rules.proofs.Rounds.{gives-mono}
use Rattle.rules.proofs.Sound.{before-source, edge-sound}
use Rattle.rules.proofs.Missing.{source-of}

module _ (f : Frame) (g : Good f) (K : Table) (xs : List ℕ) where
  pub clear-valid : Sourced f → Once f xs → Edge f K nothing 0 ⊆ Before xs → Clear f xs → Valid f K xs
  clear-valid m o k c = record { all = o; kept = λ x y t. k x y (1, rule1 t); value = value }
    where
      value : (L : ℕ) → So (f.reads L) → Sees f xs L (f.read L)
      value L r = elim (eq? (f.read L) (f.first (f.address L))) [ inl e ↦ nobody e (none e) | inr d ↦ found (source-of f g m L r d) ]
        where
          -- rule 4 puts every writer after L, and rule 5 those of L's past before it
          none : f.read L ≡ f.first (f.address L) → (S : ℕ) → Visible f xs S L → ⊥
          none e S d =
              let s : First f S L = record { writer = d.writer; reads = r; value = e } in
              let after : Before xs L S = k L S (4, rule4 s) in
              elim d.early [ inl b ↦ omega arith | inr p ↦ let before : Before xs S L = k S L (5, rule5 s p) in omega arith ]

          -- rule 2 makes the source visible, and rule 3 puts the writers of L's past before it
          found : (S : ℕ) × Source f S L → Sees f xs L (f.read L)
          found (S, s) = latest S s.value (record { writer = s.writer; early = early }) first
            where
              early : Before xs S L ⊎ So (f.earlier S L)
              early = elim (test (f.earlier S L)) [ inl p ↦ inr p | inr p ↦ inl (k S L (2, rule2 s (λ t. false≢true (sym p ∙ t)))) ]

              first : (S' : ℕ) → Visible f xs S' L → pos xs S' ≤ pos xs S
              first S' d = elim (eq? S' S) [
                | inl e ↦ omega (arith, ap (pos xs) e)
                | inr n ↦ elim d.early [ inl b ↦ omega (arith, c S S' L s d.writer n b) | inr p ↦ omega (arith, k S' S (3, rule3 L s d.writer n p)) ]
              ]

  pub valid-clear : Valid f K xs → Once f xs × (Edge f K nothing 0 ⊆ Before xs) × Clear f xs
  valid-clear v = (v.all, edge-sound f g K xs v nothing (λ x y t. absurd (false≢true t)) 0, λ S S' L s w d b. before-source f g K xs v s w d (inl b))

module _ (f : Frame) (g : Good f) (K : Table) (H : Rel) where
  pub closed-base : (P : Table) → Step f K P H ⊆ H → Edge f K nothing 0 ⊆ H
  closed-base P h x y e = h x y (e.0, gives-mono f K nothing P (λ x y t. absurd (false≢true t)) (λ x y b. absurd b) e.1)

  -- neither rules 6 and 7 nor transitivity are asked for
  pub settled-valid : Sourced f → Edge f K nothing 0 ⊆ H → SettlesLoads f H → (xs : List ℕ) → Once f xs → H ⊆ Before xs → Valid f K xs
  settled-valid m base t xs o k = clear-valid f g K xs m o (λ x y e. k x y (base x y e)) clear
    where
      clear : Clear f xs
      clear S S' L s w d b = elim (t S S' L s w d) [ inl h ↦ k S' S h | inr h ↦ let after : Before xs L S' = k L S' h in absurd (omega arith) ]

  -- by rule 7
  pub total-settles : (P : Table) → Step f K P H ⊆ H → Total f H → SettlesLoads f H
  total-settles P h t S S' L s w d =
      elim (t S' S (g.writes S' w.writes) (g.writes S s.writer.writes) d) [ inl b ↦ inl b | inr b ↦ inr (h L S' (7, rule7 S s w d b)) ]
