-- The rounds as a loop goes through them.
--
--   kept-within, supposed-within     == the pairs of a well formed trace join its records
--   begun                            == round 0 of a well formed trace
--   stayed-at, grown-at              == what one turn's functions do
--   edges-inside                     == the edges of a round join records
--   adds-full, closed-chains         == rows stay whole when they are added to; the chains of a round's edges are those before the next
--   stayed, grown                    == the two outcomes of a turn
--   Stands f K P k b e               == the loop stands at round k: b has the chains before it, e its edges, and it went on so far
--   stands-first, stands-next        == at the first round; at the next
--   ended-circle, ended-last         == a round with a circle; a round after which nothing is added
--   fewer                            == what falls from turn to turn: the pairs that are no edges
--   turns                            == a turn adds an edge, so there are no more turns than edges
use mathlib.Core.Path.{◌≡◌, refl, sym, ◌∙◌, ap, subst}
use mathlib.Core.Logic.{◌↔◌, inl, inr}
use mathlib.Core.Bool.{Bool, true, false, So, false≢true}
use mathlib.Core.List.{List}
use Prim.Native.Nat.{ℕ, suc, ◌-◌, ◌*◌, ◌<◌, ◌≤◌}
use native.Mathlib.Decide.{dec_le}
use native.Mathlib.Omega.{arith}
use lib.ListN.{length}
use Rattle.laws.specs.Relation.{Rel, Table, ◌⊆◌, one}
use Rattle.laws.proofs.GrowingTables.{pairs}
use Rattle.laws.proofs.Tests.{so-any, last?, test-one}
use Rattle.laws.proofs.Relation.{chain-mono}
use Rattle.laws.proofs.Growth.{pairs-bound, pairs-same}
use Rattle.trace.specs.Bounds.{RECORDS}
use Rattle.rules.specs.Frame.{Frame, Good}
use Rattle.trace.specs.WellFormed.{well_formed}
use Rattle.trace.specs.Meaning.{frame_of}
use Rattle.trace.specs.declared.Trace.{Trace}
use Rattle.trace.proofs.WellFormed.{form-iff}
use Rattle.trace.proofs.Good.{good}
use Rattle.rows.specs.Bounds.{CELLS}
use Rattle.rows.specs.Rows.{bit, Edges}
use Rattle.rows.specs.Empty.{empty_of}
use Rattle.rows.specs.Copy.{copy_of}
use Rattle.rows.specs.Lent.{lent_of}
use Rattle.rows.proofs.Rows.{bit-bounds}
use Rattle.rows.proofs.Whole.{empty-bit, empty-long, empty-words, copy-same, rows-one}
use Rattle.rows.proofs.Lent.{lent-within}
use Rattle.pairs.specs.Kept.{kept_of}
use Rattle.edges.specs.Supposed.{supposed_of}
use Rattle.rules.specs.Rules.{Chains, Edge, Last, InRecords}
use Rattle.edges.specs.inner.PairSets.{Only, Union, Cover}
use Rattle.rows.specs.inner.AddedPairs.{Added}
use Rattle.edges.specs.inner.DrawnEdges.{paired, SettledFor, Loaded}
use Rattle.rules.proofs.Ends.{chains-within}
use Rattle.edges.specs.LastRound.{GoesOn, Full, Ends}
use Rattle.edges.specs.inner.ClosedTables.{Inside}
use Rattle.edges.specs.inner.RoundStep.{Facts, FirstRound, Closed, Advanced, stays, grows}
use Rattle.rules.proofs.Ends.{joins-within}
use Rattle.pairs.proofs.KeptPairs.{kept-joins}
use Rattle.edges.proofs.Supposed.{supposed-joins}
use Rattle.edges.proofs.LentPairs.{supposed-lent}
use Rattle.rules.proofs.Closing.{last-next}
use Rattle.edges.proofs.RoundStep.{first-edges, settled-gives, next-edges, writers-noted}

-- a list of 0 holds no pair
empty-none : (rows : List ℕ) (n : ℕ) → rows ≡ empty_of n → (x y : ℕ) → So (bit rows x y) → ⊥
empty-none rows n e x y b = false≢true (sym (ap (λ r. bit r x y) e ∙ empty-bit n x y) ∙ b)

empty-full : (rows : List ℕ) (n : ℕ) → rows ≡ empty_of n → n ≡ CELLS → Full rows
empty-full rows n e l = rw e (record { long = empty-long n ∙ l; words = empty-words n })

pub adds-full : {a b : List ℕ} {R : Rel} → Full a → Added a R b → Full b
adds-full f p = record { long = p.long ∙ f.long; words = p.words f.words }

pub kept-within : (m : ℕ) (t : Trace) → So (well_formed t) → InRecords (frame_of t) (kept_of m t)
kept-within m t wf = joins-within (frame_of t) (good t wf) (kept_of m t) (kept-joins m t)

pub supposed-within : (t : Trace) (rows : List ℕ) → So (well_formed t) → InRecords (frame_of t) (supposed_of t rows)
supposed-within t rows wf = joins-within (frame_of t) (good t wf) (supposed_of t rows) (supposed-joins t rows)

pub begun : (t : Trace) (kept p s w₀ w e₀ e₁ e : List ℕ) (a b : ℕ) → So (well_formed t) → w₀ ≡ empty_of a → a ≡ CELLS → e₀ ≡ empty_of b → b ≡ CELLS
    → Added e₀ (Cover t.len (λ x y. Only (paired t kept p x y) x y)) e₁ → Loaded (frame_of t) t.len t.len s w₀ w e₁ e
    → FirstRound (frame_of t) (lent_of t kept) (supposed_of t p) s w e
unfolding frame_of
begun t kept p s w₀ w e₀ e₁ e a b wf cw lw ce l ps vs =
    let g = good t wf in
    let small = ((form-iff t).0 wf).fits in
    subst (λ (P : Table). FirstRound (frame_of t) (lent_of t kept) P s w e) (supposed-lent t p) (record {
      facts = record {
        sources-long = vs.long;
        writers-long = vs.writers.long ∙ (empty-full w₀ a cw lw).long;
        sources = vs.sources;
        writers = writers-noted (frame_of t) g small w₀ w (empty-none w₀ a cw) vs.writers;
      };
      full = adds-full (adds-full (empty-full e₀ b ce l) ps) vs.edges;
      has = λ x y.
          let i = first-edges (frame_of t) g small (lent_of t kept) (lent_of t p) (lent-within t kept wf) (lent-within t p wf) x y in (
            λ c. i.0 (elim ((vs.edges.pairs x y).0 c) [
              | inl c₁ ↦ elim ((ps.pairs x y).0 c₁) [ inl c₀ ↦ absurd (empty-none e₀ b ce x y c₀) | inr u ↦ inl u ]
              | inr u ↦ inr u
            ]),
            λ d. (vs.edges.pairs x y).1 (elim (i.1 d) [ inl u ↦ inl ((ps.pairs x y).1 (inr u)) | inr u ↦ inr u ]),
          );
    })

module _ (e n₀ n₁ n₂ : List ℕ) (R : Rel) (le : length e ≡ CELLS) (ln : length n₀ ≡ CELLS) (p : n₁ ≡ copy_of e n₀) (adds : Added n₁ R n₂) where
  -- the edges were copied, and then added to
  added : Added e R n₂
  added = let same : n₁ ≡ e = p ∙ copy-same e n₀ (le ∙ sym ln) in rw same at adds

  pub stayed-at : e ≡ n₂ → R ⊆ Edges e
  stayed-at q x y r = let d : Added e R e = rw (sym q) at added in (d.pairs x y).1 (inr r)

  pub grown-at : (e' : List ℕ) → e' ≡ copy_of n₂ e → (e ≡ n₂ → ⊥) → Added e R e' × (e' ≡ e → ⊥)
  grown-at e' q d = let same : e' ≡ n₂ = q ∙ copy-same n₂ e added.long in (rw same added, λ z. d (sym z ∙ same))

module _ {n : ℕ} {s w h b₀ e₀ b e : List ℕ} where
  pub stayed : {r : Bool} → Advanced n s w h b₀ e₀ b e r → r ≡ false → (b ≡ b₀) × (e ≡ e₀) × (Union n (SettledFor n s w h) ⊆ Edges e₀)
  stayed (stays p q u) f = (p, q, u)
  stayed (grows p q u) f = absurd (false≢true (sym f))

  pub grown : {r : Bool} → Advanced n s w h b₀ e₀ b e r → r ≡ true → (b ≡ h) × Added e₀ (Union n (SettledFor n s w h)) e × (e ≡ e₀ → ⊥)
  grown (stays p q u) f = absurd (false≢true f)
  grown (grows p q u) f = (p, q, u)

pub fewer : (e e' : List ℕ) (R : Rel) → Full e → Added e R e' → (e' ≡ e → ⊥) → RECORDS * RECORDS - pairs RECORDS (bit e') < RECORDS * RECORDS - pairs RECORDS (bit e)
fewer e e' R full adds d = elim (dec_le (pairs RECORDS (bit e')) (pairs RECORDS (bit e))) [
  | yes q ↦ absurd (d (same q))
  | no q ↦ omega (arith, pairs-bound RECORDS (bit e'), pairs-bound RECORDS (bit e))
]
  where
    grew : (x y : ℕ) → So (bit e x y) → So (bit e' x y)
    grew x y b = (adds.pairs x y).1 (inl b)

    same : pairs RECORDS (bit e') ≤ pairs RECORDS (bit e) → e' ≡ e
    same q =
        let full' = adds-full full adds in
        rows-one e' e full'.long full.long full'.words full.words
        (λ x y. test-one (λ b. let l = bit-bounds e' x y b in pairs-same RECORDS (bit e) (bit e') grew q x y l.0 l.1 b, λ b. grew x y b) (λ b. b, λ b. b))

pub turns : (k : ℕ) (e e' : List ℕ) (R : Rel) → Full e → Added e R e' → (e' ≡ e → ⊥) → k ≤ pairs RECORDS (bit e) → suc k ≤ pairs RECORDS (bit e')
turns k e e' R full adds d h = omega (arith, fewer e e' R full adds d, pairs-bound RECORDS (bit e'))

pub edges-inside : (f : Frame) → Good f → (K P : Table) → InRecords f K → InRecords f P → (k : ℕ) (e : List ℕ) → ((x y : ℕ) → So (bit e x y) ↔ Edge f K P k x y) → Inside f.records e
edges-inside f g K P inK in_p k e has x y u = chains-within f g K P inK in_p (suc k) x y (one ((has x y).0 u))

module _ (f : Frame) (K P : Table) where
  pub closed-chains : (k : ℕ) (e h : List ℕ) (c : Bool) → ((x y : ℕ) → So (bit e x y) ↔ Edge f K P k x y) → Closed e h c → (x y : ℕ) → So (bit h x y) ↔ Chains f K P (suc k) x y
  closed-chains k e h c has d x y = (
    λ u. chain-mono (λ x y. (has x y).0) x y ((d.has x y).0 u),
    λ u. (d.has x y).1 (chain-mono (λ x y. (has x y).1) x y u),
  )

  pub record Stands (k : ℕ) (b e : List ℕ) : Type 0 where
    pub earlier : (j : ℕ) → j < k → GoesOn f K P j
    pub before-full : Full b
    pub before-has : (x y : ℕ) → So (bit b x y) ↔ Chains f K P k x y
    pub edges-full : Full e
    pub edges-has : (x y : ℕ) → So (bit e x y) ↔ Edge f K P k x y

  pub stands-first : (s w e b : List ℕ) (n : ℕ) → FirstRound f K P s w e → b ≡ empty_of n → n ≡ CELLS → Stands 0 b e
  stands-first s w e b n d c l = record {
    earlier = λ j h. absurd (omega arith);
    before-full = empty-full b n c l;
    before-has = λ x y. (λ u. absurd (empty-none b n c x y u), λ u. absurd u);
    edges-full = d.full;
    edges-has = d.has;
  }

  module _ (k : ℕ) (b e h : List ℕ) (now : Stands k b e) where
    chains-has : (c : Bool) → Closed e h c → (x y : ℕ) → So (bit h x y) ↔ Chains f K P (suc k) x y
    chains-has c d = closed-chains k e h c now.edges-has d

    has-circle : (c : Bool) → Closed e h c → So c ↔ ((x : ℕ) × Chains f K P (suc k) x x)
    has-circle c d =
        let a = so-any RECORDS (λ x. bit h x x) in
        rw d.circle (
          λ u. let r = a.0 u in (r.0, (chains-has c d r.0 r.0).0 r.2),
          λ u. let v = (chains-has c d u.0 u.0).1 u.1 in a.1 (u.0, (bit-bounds h u.0 u.0 v).0, v),
        )

    ends : (c : Bool) → Closed e h c → ((So c → ⊥) → Last f K P k) → Ends f K P k c b e h
    ends c d last = record {
      earlier = now.earlier;
      before-full = now.before-full;
      before-has = now.before-has;
      edges-full = now.edges-full;
      edges-has = now.edges-has;
      chains-full = d.full;
      chains-has = chains-has c d;
      circle-is = has-circle c d;
      last = last;
    }

    pub ended-circle : Closed e h true → Ends f K P k true b e h
    ended-circle d = ends true d (λ n. absurd (n refl))

    module _ (g : Good f) (small : f.records ≤ RECORDS) (inK : InRecords f K) (in_p : InRecords f P) (s w : List ℕ) (facts : Facts f s w) (d : Closed e h false) where
      pub ended-last : Union f.records (SettledFor f.records s w h) ⊆ Edges e → Ends f K P k false b e h
      ended-last u = ends false d (λ _. last-next f K P k (λ x y r. (now.edges-has x y).0 (u x y ((settled-gives f g small K P inK in_p s w h facts (Chains f K P (suc k)) (chains-has false d) x y).1 r))))

      pub stands-next : (b' e' : List ℕ) → b' ≡ h → Added e (Union f.records (SettledFor f.records s w h)) e' → (e' ≡ e → ⊥) → Stands (suc k) b' e'
      unfolding Last
      stands-next b' e' q adds differs = record {
        earlier = λ j l. elim (last? l) [ inl z ↦ rw z goes | inr l' ↦ now.earlier j l' ];
        before-full = rw q d.full;
        before-has = λ x y. rw q (chains-has false d x y);
        edges-full = adds-full now.edges-full adds;
        edges-has = next;
      }
        where
          next : (x y : ℕ) → So (bit e' x y) ↔ Edge f K P (suc k) x y
          next = next-edges f g small K P inK in_p s w h e e' facts k now.edges-has (chains-has false d) adds

          goes : GoesOn f K P k
          goes = record {
            clear = λ x c. false≢true ((has-circle false d).1 (x, c));
            adds = λ last.
                let full' = adds-full now.edges-full adds in
                differs (rows-one e' e full'.long now.edges-full.long full'.words now.edges-full.words
                (λ x y. test-one (λ v. (now.edges-has x y).1 (last x y ((next x y).0 v)), λ v. (adds.pairs x y).1 (inl v)) (λ v. v, λ v. v)));
          }
