-- How one look at each record comes to what is left.
--
--   fault?       == a trace has a valid order, or none
--   faulty-found == the search tells it
--   circled-none == what closes a circle has no valid order
--   not_there    == a test that fails beside one that passes
--   goes_at      == what goes with a record, as the rows have it
--   tried-no, tried-yes, tried-kept == a look at a record that is not there; one that takes its record, and one that does not
--   Passed, passed_none, passed-more, passed-all == one look at each record, up to all of them
use mathlib.Core.Path.{◌≡◌, refl, sym, ap, ◌∙◌, subst}
use mathlib.Core.Logic.{◌↔◌, ◌⊎◌, inl, inr}
use mathlib.Core.Bool.{Bool, true, false, So, not, ◌&&◌, ◌||◌, false≢true}
use mathlib.Core.List.{List}
use Prim.Native.Nat.{ℕ, suc, ◌+◌, ◌≤◌, ◌<◌}
use native.Mathlib.Numerals.{add-one}
use lib.Dec.{eqb}
use lib.ListN.{length, take}
use Rattle.laws.specs.Dict.{Least}
use Rattle.laws.proofs.Tests.{and-iff, or-iff, same-iff, so-eq, test, test-one}
use Rattle.rules.specs.Order.{Valid}
use Rattle.trace.specs.Meaning.{frame_of}
use Rattle.trace.specs.WellFormed.{well_formed}
use Rattle.trace.specs.declared.Trace.{Trace}
use Rattle.trace.proofs.Good.{good}
use Rattle.rows.specs.Bounds.{WORDS, CELLS}
use Rattle.rows.specs.Empty.{empty_of}
use Rattle.rows.specs.Rows.{bit}
use Rattle.pairs.specs.Kept.{modelled, kept_of}
use Rattle.pairs.proofs.KeptPairs.{kept-joins}
use Rattle.rules.specs.Verdict.{faulty}
use Rattle.rules.proofs.ComputedVerdict.{verdict?}
use Rattle.rules.proofs.Says.{faulty-exactly}
use Rattle.rules.proofs.VerdictComputed.{verdict-says}
use Rattle.edges.specs.ForcedPairs.{ForcesBy, Forces}
use Rattle.edges.specs.declared.Forced.{Forced}
use Rattle.search.proofs.Guiding.{refuted-none}
use Rattle.search.specs.FirstOrder.{found?, FirstOrder}
use Rattle.search.specs.declared.Order.{Order}
use Rattle.parts.specs.Removal.{Set, every, Goes}
use Rattle.parts.specs.inner.RemovalTests.{goes?, cut_away}
use Rattle.parts.specs.CutDown.{Spare, Faulty}
use Rattle.parts.specs.Picked.{picked}
use Rattle.parts.proofs.Removal.{goes-iff}
use Rattle.parts.proofs.Alike.{picked-alike}
use Rattle.parts.proofs.Down.{cut-removed, removed-one}
use Rattle.parts.proofs.Looks.{Looks, left-well, looks-none, looks-gone, looks-kept, looks-all}
use Rattle.smaller.specs.inner.RecordSets.{Chosen, ReaderChains, without_record, TriedRecord, LeftOver, NoOrder}

pub fault? : (t : Trace) → So (well_formed t) → (m : ℕ) → NoOrder t m ⊎ (NoOrder t m → ⊥)
fault? t w m =
    let v = verdict? (frame_of t) (kept_of m t) in
    let is = faulty-exactly (frame_of t) (kept_of m t) (good t w) v (verdict-says (frame_of t) (good t w) (kept_of m t) (kept-joins m t)) in
    elim (test (faulty v)) [ inl s ↦ inl (is.0 s) | inr e ↦ inr (λ h. false≢true (sym e ∙ is.1 h)) ]

pub faulty-found : (t : Trace) → So (well_formed t) → (m : ℕ) → So (modelled m) → (o : Order) → FirstOrder t m o → So (not o.found) ↔ NoOrder t m
faulty-found t w m k o q = go o.found (q.first ((and-iff same-iff same-iff).1 (w, k)))
  where
    go : (b : Bool) → Least (Valid (frame_of t) (kept_of m t)) (found? b (take o.len o.operations)) → So (not b) ↔ NoOrder t m
    go true l = (λ t. absurd (false≢true t), λ n. absurd (n _ l.0))
    go false l = (λ _. l, λ _. refl)

pub circled-none : (t : Trace) → So (well_formed t) → (m : ℕ) → So (modelled m) → (r : Forced) → Forces t m (empty_of CELLS) r → So r.contradicted → NoOrder t m
circled-none t w m k r q =
    let by : ForcesBy t (kept_of m t) (empty_of CELLS) r = record { full = q.full; closing = λ _. q.closing ((and-iff same-iff same-iff).1 (w, k)); none = λ n. absurd (false≢true (sym n ∙ w)) } in
    refuted-none t (kept_of m t) (kept-joins m t) w r by

pub not_there : (a b : Bool) → So b → (a && b) ≡ false → a ≡ false
not_there a b h e = elim (test a) [ inl s ↦ absurd (false≢true (sym e ∙ (and-iff same-iff same-iff).1 (s, h))) | inr n ↦ n ]

module _ (t : Trace) (w : So (well_formed t)) (m : ℕ) where
  pub goes_at : (rows : List ℕ) → ReaderChains (frame_of t) rows → (i x : ℕ) → (eqb i x || bit rows i x) ≡ goes? (frame_of t) i x
  goes_at rows c i x = test-one (or-iff so-eq (c.goes i x)) (goes-iff (frame_of t) (good t w) i x)

  -- two sets that have the same records have the same fault
  alike : (A B : Set) → ((x : ℕ) → x < t.len → A x ≡ B x) → Faulty t m A → Faulty t m B
  alike A B h = subst (λ (u : Trace). NoOrder u m) (picked-alike A B t t.len h)

  pub tried-no : (k : List ℕ) (i : ℕ) → length k ≡ WORDS → Chosen k i ≡ false → TriedRecord t m i k k
  tried-no k i l e = record { long = l; goes = λ a. absurd (false≢true (sym e ∙ a)); stays = λ _ x h. refl }

  module _ (rows : List ℕ) (c : ReaderChains (frame_of t) rows) (k : List ℕ) (i : ℕ) (e : So (Chosen k i)) (l : List ℕ)
      (left : (x : ℕ) → x < t.len → Chosen l x ≡ (Chosen k x && not (eqb i x || bit rows i x))) where
    cuts : (x : ℕ) → x < t.len → Chosen l x ≡ without_record t k i x
    cuts x h = left x h ∙ ap (λ (b : Bool). Chosen k x && not b) (goes_at rows c i x)

    pub tried-yes : length l ≡ WORDS → Faulty t m (Chosen l) → TriedRecord t m i k l
    tried-yes n s = record { long = n; goes = λ _ _. cuts; stays = λ d. absurd (d e (alike (Chosen l) (without_record t k i) cuts s)) }

    pub tried-kept : length k ≡ WORDS → (Faulty t m (Chosen l) → ⊥) → TriedRecord t m i k k
    tried-kept n s = record { long = n; goes = λ _ b. absurd (s (alike (without_record t k i) (Chosen l) (λ x h. sym (cuts x h)) b)); stays = λ _ x h. refl }

  -- after i looks the rows have a set from which the others lead to what is left
  pub record Passed (i : ℕ) (k : List ℕ) : Type 0 where
    pub long : length k ≡ WORDS
    pub kept : Set
    pub same : (x : ℕ) → x < t.len → Chosen k x ≡ kept x
    pub looks : Looks t m w i kept

  pub passed_none : (k : List ℕ) → length k ≡ WORDS → ((x : ℕ) → x < t.len → So (Chosen k x)) → Passed 0 k
  passed_none k l h = record { long = l; kept = every; same = h; looks = looks-none t m w }

  pub passed-more : (i : ℕ) (k l : List ℕ) → i < t.len → Passed i k → TriedRecord t m i k l → Passed (i + 1) l
  passed-more i k l h p q = rw add-one (elim (test (A i)) [
    | inr e ↦ stay (λ s. false≢true (sym e ∙ s.there)) (λ a. absurd (false≢true (sym (p.same i h ∙ e) ∙ a)))
    | inl a ↦ elim (fault? (picked t B) (left-well t m w B) m) [
      | inr n ↦ stay
          (λ s. n (subst (Faulty t m) (removed-one G A i s.left B s.removed removed) s.fault))
          (λ _ f. n (alike (without_record t k i) B near f))
      | inl f ↦ record {
        long = q.long;
        kept = B;
        same = λ x b. q.goes (p.same i h ∙ a) (alike B (without_record t k i) (λ x b. sym (near x b)) f) x b ∙ near x b;
        looks = looks-gone t m w A i p.looks (record { below = h; there = a; left = B; removed = removed; fault = f });
      }
    ]
  ])
    where
      G : ℕ → ℕ → Type 0
      G = Goes (frame_of t)

      A : Set
      A = p.kept

      B : Set
      B = cut_away (goes? (frame_of t)) A i

      removed : (x : ℕ) → So (B x) ↔ (So (A x) × (G i x → ⊥))
      removed = cut-removed G (goes? (frame_of t)) (goes-iff (frame_of t) (good t w)) A i

      near : (x : ℕ) → x < t.len → without_record t k i x ≡ B x
      near x b = ap (λ (a : Bool). a && not (goes? (frame_of t) i x)) (p.same x b)

      stay : (Spare t.len G (Faulty t m) A i → ⊥) → (So (Chosen k i) → Faulty t m (without_record t k i) → ⊥) → Passed (suc i) l
      stay s d = record { long = q.long; kept = A; same = λ x b. q.stays d x b ∙ p.same x b; looks = looks-kept t m w A i p.looks s }

  pub passed-all : (i : ℕ) (k : List ℕ) → t.len ≤ i → Passed i k → LeftOver t m k
  passed-all i k h p = record { kept = p.kept; left = looks-all t m w p.kept i h p.looks; same = p.same }
