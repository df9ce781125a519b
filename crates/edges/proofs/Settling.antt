-- The loop that settles rows by taking pairs in: begin, a pass, the end.
--
--   noted            == what a pass asks of the noted facts
--   settling-first   == the chains of round 0
--   settling-next    == after a pass
--   settling-fewer   == a pass that changes something leaves fewer pairs out
--   settling-end     == a pass that changed nothing, and no circle: the rows are the closing
--   settling-circle  == a circle: the empty rows are
use mathlib.Core.Path.{◌≡◌, sym, ◌∙◌, ap, subst}
use mathlib.Core.Logic.{◌↔◌}
use mathlib.Core.Bool.{Bool, true, false, So, false≢true}
use mathlib.Core.List.{List}
use Prim.Native.Nat.{ℕ, ◌-◌, ◌*◌, ◌<◌, ◌≤◌}
use native.Mathlib.Decide.{dec_le}
use native.Mathlib.Omega.{arith}
use lib.ListN.{length, get_or}
use Rattle.laws.specs.Tests.{any}
use Rattle.laws.specs.Relation.{Rel, Table, one}
use Rattle.laws.proofs.GrowingTables.{pairs}
use Rattle.laws.specs.inner.Joined.{SelfLed}
use Rattle.laws.proofs.Tests.{so-any, test-one}
use Rattle.laws.proofs.Growth.{pairs-bound, pairs-same}
use Rattle.trace.specs.Bounds.{RECORDS}
use Rattle.rules.specs.Frame.{Frame, Good, Source}
use Rattle.rows.specs.Bounds.{CELLS}
use Rattle.rows.specs.Rows.{bit, Edges}
use Rattle.rows.specs.Empty.{empty_of}
use Rattle.rows.proofs.Rows.{bit-bounds}
use Rattle.rows.proofs.Whole.{empty-bit, empty-long, empty-words, rows-one}
use Rattle.rules.specs.Rules.{InRecords}
use Rattle.pairs.proofs.SourceOf.{source-of-is}
use Rattle.rules.proofs.Growing.{growing-chain, growing-circle, growing-end, growing-stop}
use Rattle.edges.specs.inner.PairSets.{Union}
use Rattle.edges.specs.inner.DrawnEdges.{SettledFor}
use Rattle.edges.specs.LastRound.{Full}
use Rattle.edges.specs.inner.RoundStep.{Facts, FirstRound, Closed}
use Rattle.edges.specs.inner.ClosedTables.{Twin}
use Rattle.edges.specs.inner.Takes.{Asks, Takes, AskNoted}
use Rattle.edges.specs.inner.Settling.{SettlingRows, Grew}
use Rattle.edges.proofs.RoundStep.{settled-gives}

pub takes-full : {ask : Asks} {e p e' p' : List ℕ} {R : Rel} → Full e → Takes ask e p R e' p' → Full e'
takes-full l j = record { long = j.long ∙ l.long; words = j.words l.words }

pub settling-fewer : (ask : Asks) (e q e' q' : List ℕ) (R : Rel) → Full e → Takes ask e q R e' q' → (e ≡ e' → ⊥) → RECORDS * RECORDS - pairs RECORDS (bit e') < RECORDS * RECORDS - pairs RECORDS (bit e)
settling-fewer ask e q e' q' R full p d = elim (dec_le (pairs RECORDS (bit e')) (pairs RECORDS (bit e))) [
  | yes l ↦ absurd (d (sym (same l)))
  | no l ↦ omega (arith, pairs-bound RECORDS (bit e'), pairs-bound RECORDS (bit e))
]
  where
    same : pairs RECORDS (bit e') ≤ pairs RECORDS (bit e) → e' ≡ e
    same few =
        let full' = takes-full full p in
        rows-one e' e full'.long full.long full'.words full.words
        (λ x y. test-one (λ b. let l = bit-bounds e' x y b in pairs-same RECORDS (bit e) (bit e') p.keeps few x y l.0 l.1 b, λ b. p.keeps x y b) (λ b. b, λ b. b))

module _ (f : Frame) (K P : Table) where
  pub settling-first : (s w e h q : List ℕ) (c : Bool) → FirstRound f K P s w e → Closed e h c → Twin h q → length q ≡ CELLS → SettlingRows f K P h q
  settling-first s w e h q c b d t l = record {
    full = d.full;
    turned-long = l;
    twin = t;
    growing = growing-chain f K P (Edges h) (Edges e) (λ x y u. (1, one ((b.has x y).0 u))) d.has;
    begun = λ x y u. (d.has x y).1 (one ((b.has x y).1 u));
  }

  circled : (e : List ℕ) → SelfLed (Edges e) ↔ So (any RECORDS (λ x. bit e x x))
  circled e =
      let a = so-any RECORDS (λ x. bit e x x) in
      (λ c. a.1 (c.0, (bit-bounds e c.0 c.0 c.1).0, c.1), λ u. let r = a.0 u in (r.0, r.2))

  pub settling-circle : (e p e' : List ℕ) (n : ℕ) → SettlingRows f K P e p → So (any RECORDS (λ x. bit e x x)) → e' ≡ empty_of n → n ≡ CELLS → Grew f K P true e'
  settling-circle e p e' n now c q l = record {
    full = rw q (record { long = empty-long n ∙ l; words = empty-words n });
    closing = growing-stop f K P (growing-circle f K P (Edges e) now.growing ((circled e).1 c)) (bit e') (λ x y b. false≢true (sym (ap (λ r. bit r x y) q ∙ empty-bit n x y) ∙ b));
  }

  module _ (g : Good f) (small : f.records ≤ RECORDS) (inK : InRecords f K) (in_p : InRecords f P) (s w : List ℕ) (facts : Facts f s w) where
    pub noted : (n : ℕ) → n ≡ f.records → AskNoted n s w f K P
    noted n q L l h =
        let e = facts.sources L (omega arith) in
        let src : Source f (get_or s L 0) L = rw e (source-of-is f L (omega arith)) in
        (src, λ z b. (facts.writers z L src.reads).0 b)

    pub settling-next : (n : ℕ) → n ≡ f.records → (e t e' t' : List ℕ) (R : Rel) → SettlingRows f K P e t → Takes (AskNoted n s w) e t R e' t' → SettlingRows f K P e' t'
    settling-next n q e t e' t' R now p = record {
      full = takes-full now.full p;
      turned-long = p.turned-long ∙ now.turned-long;
      twin = p.twin now.twin;
      growing = p.growing f K P (noted n q) now.twin now.growing;
      begun = λ x y u. p.keeps x y (now.begun x y u);
    }

    pub settling-end : (e t e' t' : List ℕ) → SettlingRows f K P e t → any RECORDS (λ x. bit e x x) ≡ false → Takes (AskNoted f.records s w) e t (Union f.records (SettledFor f.records s w e)) e' t' → e ≡ e' → Grew f K P false e'
    settling-end e t e' t' now c p same =
        subst (Grew f K P false) same record {
          full = now.full;
          closing = growing-end f K P (Edges e) now.growing record {
            begun = now.begun;
            settled = λ x y r. subst (λ (e : List ℕ). Edges e x y) (sym same) (p.has now.twin x y ((settled-gives f g small K P inK in_p s w e facts (Edges e) (λ x y. (λ b. b, λ b. b)) x y).1 r));
          } (λ u. false≢true (sym c ∙ (circled e).0 u)) (bit e) (λ x y. (λ b. b, λ b. b));
        }
