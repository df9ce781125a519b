-- The rounds as a loop goes through them until an edge comes.
--
--   Nears f K P k x y j e           == the loop stands at round j: e has its edges, and neither round k nor the edge x, y came so far
--   nears-first, nears-next         == at the first round; at the next
--   next-has                        == what is drawn from the chains of a round is the next one, whether it adds something or not
--   prior-here, prior-still         == the round that was looked for: this one; round k - 1, where nothing is added any more
--   prior-some, prior-none          == the answer, where there is something to answer and where not
--   prior-one                       == no second answer fits
use mathlib.Core.Path.{◌≡◌, refl, sym, ap₂, ◌∙◌, subst}
use mathlib.Core.Logic.{◌↔◌, ◌⊎◌, inl, inr}
use mathlib.Core.Bool.{Bool, false, So, false≢true}
use mathlib.Core.List.{List}
use Prim.Native.Nat.{ℕ, suc, ◌-◌, ◌<◌, ◌≤◌}
use native.Mathlib.Omega.{arith}
use Rattle.laws.specs.Relation.{Table, ◌⊆◌}
use Rattle.laws.proofs.Tests.{test, three, test-one, last?}
use Rattle.trace.specs.Bounds.{RECORDS}
use Rattle.rules.specs.Frame.{Frame, Good}
use Rattle.rules.specs.Rules.{Chains, Edge, Last, InRecords}
use Rattle.rules.proofs.Rounds.{step-mono, chains-later, edge-later, edge-grow, last-held}
use Rattle.rules.proofs.Closing.{last-next}
use Rattle.trace.specs.Meaning.{frame_of}
use Rattle.trace.specs.declared.Trace.{Trace}
use Rattle.rows.specs.Bounds.{CELLS}
use Rattle.rows.specs.Rows.{bit}
use Rattle.rows.specs.Empty.{empty_of}
use Rattle.rows.specs.Lent.{lent_of}
use Rattle.pairs.specs.Kept.{kept_of}
use Rattle.edges.specs.Supposed.{supposed_of}
use Rattle.edges.specs.LastRound.{Full}
use Rattle.edges.specs.KeptRows.{KeptRows}
use Rattle.edges.specs.ForcedPairs.{answered}
use Rattle.edges.specs.RoundBefore.{PriorTo, PriorRound}
use Rattle.edges.specs.inner.RoundStep.{Facts, FirstRound, Closed, Advanced, stays, grows}
use Rattle.edges.specs.declared.force.Prior.{Prior}
use Rattle.edges.proofs.RoundStep.{settled-gives, next-edges}
use Rattle.edges.proofs.LastRound.{closed-chains, adds-full}
use Rattle.edges.proofs.ForcedPairs.{kept_same, same_rows}

module _ (f : Frame) (K P : Table) where
  pub record Nears (k x y j : ℕ) (e : List ℕ) : Type 0 where
    pub earlier : (i : ℕ) → i < j → (suc i < k) × (Edge f K P (suc i) x y → ⊥)
    pub full : Full e
    pub has : (a b : ℕ) → So (bit e a b) ↔ Edge f K P j a b

  pub nears-first : (k x y : ℕ) (s w e : List ℕ) → FirstRound f K P s w e → Nears k x y 0 e
  nears-first k x y s w e d = record { earlier = λ i h. absurd (omega arith); full = d.full; has = d.has }

  module _ (k x y j : ℕ) (e h : List ℕ) (c : Bool) (now : Nears k x y j e) (d : Closed e h c) where
    chains-has : (a b : ℕ) → So (bit h a b) ↔ Chains f K P (suc j) a b
    chains-has = closed-chains f K P j e h c now.has d

    pub prior-here : (k ≤ suc j) ⊎ Edge f K P (suc j) x y → PriorTo f K P k x y j e h
    prior-here comes = record { earlier = now.earlier; comes = comes; edges-full = now.full; edges-has = now.has; chains-full = d.full; chains-has = chains-has }

    pub nears-next : (e' : List ℕ) → suc j < k → (Edge f K P (suc j) x y → ⊥) → Full e' → ((a b : ℕ) → So (bit e' a b) ↔ Edge f K P (suc j) a b) → Nears k x y (suc j) e'
    nears-next e' l out full has = record {
      earlier = λ i h. elim (last? h) [ inl z ↦ rw z (l, out) | inr h' ↦ now.earlier i h' ];
      full = full;
      has = has;
    }

    pub prior-still : suc j < k → (Edge f K P (suc j) x y → ⊥) → Last f K P j → PriorTo f K P k x y (k - 1) e h
    unfolding Last
    prior-still l out last = record {
      earlier = λ i h. (omega arith, λ u. out (all (suc i) x y u));
      comes = inl (omega arith);
      edges-full = now.full;
      edges-has = λ a b. (λ u. edge-later f K P j (k - 1) (omega arith) a b ((now.has a b).0 u), λ u. (now.has a b).1 (last a b (all (k - 1) a b u)));
      chains-full = d.full;
      chains-has = λ a b. (λ u. chains-later f K P (suc j) (suc (k - 1)) (omega arith) a b ((chains-has a b).0 u), λ u. (chains-has a b).1 (last-held f K P j last a b (suc (k - 1), u)));
    }
      where
        -- no round has more
        all : (m : ℕ) → Edge f K P m ⊆ Edge f K P (suc j)
        all m = step-mono f K P (λ a b u. last-held f K P j last a b (m, u))

    module _ (g : Good f) (small : f.records ≤ RECORDS) (inK : InRecords f K) (in_p : InRecords f P) (s w : List ℕ) (facts : Facts f s w) where
      pub stays-last : {b₀ b e' : List ℕ} {r : Bool} → Advanced f.records s w h b₀ e b e' r → r ≡ false → Last f K P j
      stays-last (grows p q u) z = absurd (false≢true (sym z))
      stays-last (stays p q u) z = last-next f K P j (λ x y r. (now.has x y).0 (u x y ((settled-gives f g small K P inK in_p s w h facts (Chains f K P (suc j)) chains-has x y).1 r)))

      pub next-full : {b₀ b e' : List ℕ} {r : Bool} → Advanced f.records s w h b₀ e b e' r → Full e'
      next-full (stays p q u) = rw q now.full
      next-full (grows p q u) = adds-full now.full q

      pub next-has : {b₀ b e' : List ℕ} {r : Bool} → Advanced f.records s w h b₀ e b e' r → (a b : ℕ) → So (bit e' a b) ↔ Edge f K P (suc j) a b
      unfolding Last
      next-has (stays p q u) a b =
          let last = stays-last (stays p q u) refl in
          rw q (λ t. edge-grow f K P j a b ((now.has a b).0 t), λ t. (now.has a b).1 (last a b t))
      next-has (grows p q u) a b = next-edges f g small K P inK in_p s w h e _ facts j now.has chains-has q a b

  one-prior : {k x y i j : ℕ} {e h e' h' : List ℕ} → PriorTo f K P k x y i e h → PriorTo f K P k x y j e' h' → i < j → ⊥
  one-prior {k} {x} {y} {i} {j} p q l = let u = q.earlier i l in elim p.comes [ inl z ↦ omega (arith, u.0) | inr z ↦ u.1 z ]

  pub priors-one : (k x y i j : ℕ) (e h e' h' : List ℕ) → PriorTo f K P k x y i e h → PriorTo f K P k x y j e' h' → (i ≡ j) × (e ≡ e') × (h ≡ h')
  priors-one k x y i j e h e' h' p q₀ =
      let s : i ≡ j = elim (three i j) [ inl l ↦ absurd (one-prior p q₀ l) | inr r ↦ elim r [ inl z ↦ z | inr l ↦ absurd (one-prior q₀ p l) ] ] in
      let q : PriorTo f K P k x y i e' h' = rw (sym s) at q₀ in (
        s,
        same_rows f K P e e' p.edges-full q.edges-full (λ a b. test-one (p.edges-has a b) (q.edges-has a b)),
        same_rows f K P h h' p.chains-full q.chains-full (λ a b. test-one (p.chains-has a b) (q.chains-has a b)),
      )

abbrev prior-of : ℕ → List ℕ × List ℕ → Prior
prior-of k p = record { number = k; edges = p.0; chains = p.1 }

module _ (t : Trace) (m : ℕ) (rows : List ℕ) (k x y : ℕ) where
  pub prior-some : (r : Prior) → So (answered m t) → (kept : List ℕ) → KeptRows t m kept
      → PriorTo (frame_of t) (lent_of t kept) (supposed_of t rows) k x y r.number r.edges r.chains → PriorRound t m rows k x y r
  prior-some r s kept is e = record {
    prior = λ _. subst (λ (K : Table). PriorTo (frame_of t) K (supposed_of t rows) k x y r.number r.edges r.chains) (kept_same t m kept is s) e;
    none = λ n. absurd (false≢true (sym n ∙ s));
  }

  pub prior-none : (r : Prior) → answered m t ≡ false → r.number ≡ 0 → r.edges ≡ empty_of CELLS → r.chains ≡ empty_of CELLS → PriorRound t m rows k x y r
  prior-none r n j e h = record { prior = λ s. absurd (false≢true (sym n ∙ s)); none = λ _. (j, e, h) }

  pub prior-one : (r s : Prior) → PriorRound t m rows k x y r → PriorRound t m rows k x y s → r ≡ s
  prior-one r s p q = elim (test (answered m t)) [
    | inl a ↦ let o = priors-one (frame_of t) (kept_of m t) (supposed_of t rows) k x y _ _ _ _ _ _ (p.prior a) (q.prior a) in whole o.0 o.1 o.2
    | inr n ↦ let u = p.none n in let v = q.none n in whole (u.0 ∙ sym v.0) (u.1 ∙ sym v.1) (u.2 ∙ sym v.2)
  ]
    where
      whole : r.number ≡ s.number → r.edges ≡ s.edges → r.chains ≡ s.chains → r ≡ s
      whole n e h = ap₂ prior-of n (ap₂ (λ x y. (x, y)) e h)
