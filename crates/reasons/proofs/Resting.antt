-- What an edge rests on, as it is found from the round before it came.
--
--   tell-inside, tell-bare, tell-first, tell-below, tell-rests == what is told of an edge, case by case
--   prior-alone   == an edge that round 0 has is told alone
--   prior-rests   == another, which no rule gives without chains, rests on a chain of the round before it came
--   rule-bare, bare-alone == the lowest rule that gives an edge where there are no chains; by such a rule it is told alone
--   source-small  == a source is a number of the code
--   inside-place  == an edge is named where it has a place
--   rests-alone   == the answer for an edge that is told alone
--   rests-resting == the chain, where the answer is one
--   told-alone, told-short, told-resting == an edge told by that answer: alone; no room for what it rests on; behind what it rests on
use mathlib.Core.Path.{◌≡◌, refl, sym, ap, ap₂, ◌∙◌, subst, fun_ext}
use mathlib.Core.Logic.{◌≢◌, ◌↔◌, ◌⊎◌, inl, inr}
use mathlib.Core.Bool.{Bool, true, false, So, cond, ◌&&◌, ◌||◌, false≢true}
use mathlib.Core.List.{List, [], ◌∷◌, ◌++◌}
use mathlib.Core.Option.{Option, none, some}
use Prim.Native.Nat.{ℕ, zero, suc, ◌+◌, ◌-◌, ◌<◌, ◌≤◌}
use native.Mathlib.Omega.{arith}
use lib.Dec.{eqb}
use lib.ListN.{length, take}
use Rattle.laws.specs.Tests.{any}
use Rattle.laws.specs.Relation.{Table}
use Rattle.laws.specs.Lowest.{Lowest, lowest}
use Rattle.laws.proofs.Tests.{off, eq?, or-iff, same-iff, so-eq, so-any, test-one}
use Rattle.laws.proofs.Lowest.{lowest-iff}
use Rattle.trace.specs.Bounds.{RECORDS}
use Rattle.rules.specs.Frame.{Frame, Good}
use Rattle.rules.specs.Rules.{Edge as Forced, InRecords, nothing}
use Rattle.rules.specs.ComputedRounds.{chains?, edge?}
use Rattle.rules.specs.ShownCircle.{rule?}
use Rattle.rules.specs.RuleTests.{source?}
use Rattle.rules.proofs.RuleTests.{chains-iff, edge-iff}
use Rattle.rules.proofs.Rounds.{edge-later}
use Rattle.rows.specs.Rows.{bit}
use Rattle.rows.specs.Empty.{empty_of}
use Rattle.rows.proofs.Whole.{empty-bit}
use Rattle.pairs.specs.SourceOf.{source_of}
use Rattle.edges.specs.RoundBefore.{PriorTo}
use Rattle.papers.specs.Paper.{Claim, Entry, edge_at}
use Rattle.papers.specs.inner.ReaderBranch.{branch_of}
use Rattle.reasons.specs.Telling.{edges_of, inside, entry_place, numbers, along, rule_by, rest_load, bare_entry, rests_from, rests_to, way_at, resting, tell}
use Rattle.reasons.specs.Ways.{way_of}
use Rattle.reasons.specs.inner.Rests.{resting_on, Resting, RestsOn}
use Rattle.reasons.specs.inner.Laid.{Done, EntriesTold}
use Rattle.reasons.specs.declared.story.Rest.{Rest}
use Rattle.reasons.specs.declared.story.Chain.{Chain}
use Rattle.std.specs.Prelude.{Some, None}
use Rattle.std.specs.Prelude as std
use Rattle.reasons.proofs.Joining.{over_first}
use Rattle.reasons.proofs.Along.{told-join}

module _ (f : Frame) (K P : Table) (E : List Claim) (x y : ℕ) where
  -- the three tests of an edge, and what is told by them
  abbrev cases : ℕ → Bool → Bool → Bool → List Entry
  cases k a b c = elim a [
    | true ↦ []
    | false ↦ elim b [
      | true ↦ elim c [ true ↦ tell f K P k E x y | false ↦ resting f K P (tell f K P k) k E x y ]
      | false ↦ bare_entry f K x y ∷ []
    ]
  ]

  by_cases : (k : ℕ) → tell f K P (suc k) E x y ≡ cases k (inside E x y) (eqb (rule_by f K nothing x y) 0) (edge? f K P k x y)
  unfolding tell
  by_cases k = refl

  abbrev first : Bool → List Entry
  first a = elim a [ true ↦ [] | false ↦ bare_entry f K x y ∷ [] ]

  by_first : tell f K P zero E x y ≡ first (inside E x y)
  unfolding tell
  by_first = refl

  pub tell-inside : (k : ℕ) → inside E x y ≡ true → tell f K P k E x y ≡ []
  tell-inside zero e = by_first ∙ ap first e
  tell-inside (suc k) e = by_cases k ∙ ap (λ a. cases k a (eqb (rule_by f K nothing x y) 0) (edge? f K P k x y)) e

  module _ (out : inside E x y ≡ false) where
    opened : (k : ℕ) → tell f K P (suc k) E x y ≡ cases k false (eqb (rule_by f K nothing x y) 0) (edge? f K P k x y)
    opened k = by_cases k ∙ ap (λ a. cases k a (eqb (rule_by f K nothing x y) 0) (edge? f K P k x y)) out

    tell-first : tell f K P zero E x y ≡ bare_entry f K x y ∷ []
    tell-first = by_first ∙ ap first out

    tell-bare : (k : ℕ) → rule_by f K nothing x y ≢ 0 → tell f K P k E x y ≡ bare_entry f K x y ∷ []
    tell-bare zero n = tell-first
    tell-bare (suc k) n = opened k ∙ ap (λ b. cases k false b (edge? f K P k x y)) (off (λ t. n (so-eq.0 t)))

    module _ (z : rule_by f K nothing x y ≡ 0) where
      unruled : (k : ℕ) → tell f K P (suc k) E x y ≡ cases k false true (edge? f K P k x y)
      unruled k = opened k ∙ ap (λ b. cases k false b (edge? f K P k x y)) (so-eq.1 z)

      tell-below : (k : ℕ) → edge? f K P k x y ≡ true → tell f K P (suc k) E x y ≡ tell f K P k E x y
      tell-below k e = unruled k ∙ ap (cases k false true) e

      tell-rests : (k : ℕ) → edge? f K P k x y ≡ false → tell f K P (suc k) E x y ≡ resting f K P (tell f K P k) k E x y
      tell-rests k e = unruled k ∙ ap (cases k false true) e

      -- down to the round in which the edge came
      down : (j : ℕ) → ((i : ℕ) → j ≤ i → So (edge? f K P i x y)) → (d k : ℕ) → k ≡ d + j → tell f K P k E x y ≡ tell f K P j E x y
      down j up zero k e = ap (λ k. tell f K P k E x y) (let q : k ≡ j = omega arith in q)
      down j up (suc d) k e =
          ap (λ k. tell f K P k E x y) (let q : k ≡ suc (d + j) = omega arith in q) ∙ tell-below (d + j) (up (d + j) (omega arith)) ∙ down j up d (d + j) refl

module _ (f : Frame) (g : Good f) (K P : Table) (inK : InRecords f K) (in_p : InRecords f P) (k x y j : ℕ) (edges chains : List ℕ) (prior : PriorTo f K P k x y j edges chains) where
  edges-same : bit edges ≡ edge? f K P j
  edges-same = fun_ext (λ a. fun_ext (λ b. test-one (prior.edges-has a b) (edge-iff f g K P inK in_p j a b)))

  chains-same : bit chains ≡ chains? f K P (suc j)
  chains-same = fun_ext (λ a. fun_ext (λ b. test-one (prior.chains-has a b) (chains-iff f g K P inK in_p (suc j) a b)))

  -- once it is there, the edge stays
  later : (m : ℕ) → Forced f K P m x y → (i : ℕ) → m ≤ i → So (edge? f K P i x y)
  later m e i l = (edge-iff f g K P inK in_p i x y).1 (edge-later f K P m i l x y e)

  -- only round 0 may have the edge already
  begins : Forced f K P j x y → j ≡ 0
  begins e = elim (eq? j 0) [
    | inl q ↦ q
    | inr d ↦ absurd ((prior.earlier (j - 1) (omega arith)).1 (subst (λ (i : ℕ). Forced f K P i x y) (let q : j ≡ suc (j - 1) = omega arith in q) e))
  ]

  before : k ≢ 0 → j < k
  before n = elim (eq? j 0) [ inl q ↦ omega arith | inr d ↦ omega (arith, (prior.earlier (j - 1) (omega arith)).0) ]

  -- the test of an edge that is told alone, though no rule gives it without chains
  alone-iff : So (eqb k 0 || bit edges x y) ↔ ((k ≡ 0) ⊎ So (bit edges x y))
  alone-iff = or-iff (so-eq {m = k} {n = 0}) same-iff

  pub prior-alone : rule_by f K nothing x y ≡ 0 → So (eqb k 0 || bit edges x y) → (E : List Claim) → inside E x y ≡ false
      → tell f K P k E x y ≡ record { rule = 0; from = x; to = y; rests = [] } ∷ []
  prior-alone z t E out = to-first ∙ tell-first f K P E x y out ∙ ap (λ r. record { rule = r; from = x; to = y; rests = [] } ∷ []) z
    where
      to-first : tell f K P k E x y ≡ tell f K P 0 E x y
      to-first = elim (alone-iff.0 t) [
        | inl q ↦ ap (λ k. tell f K P k E x y) q
        | inr u ↦ let e = (prior.edges-has x y).0 u in down f K P E x y out z 0 (later 0 (subst (λ (i : ℕ). Forced f K P i x y) (begins e) e)) k k (omega arith)
      ]

  module _ (T : List Claim → ℕ → ℕ → List Entry) (E : List Claim) where
    -- what is told by tables of edges and chains
    abbrev by : Table → Table → List Entry
    by e c =
        resting_on T E (rule? f K nothing c x y) x y (cond (eqb (rule? f K nothing c x y) 6) x (source_of f x))
        (way_of e c RECORDS (cond (eqb (rule? f K nothing c x y) 6) x (source_of f x)) (cond (eqb (rule? f K nothing c x y) 6) (rest_load f c x y) y))
        (cond (eqb (rule? f K nothing c x y) 6) (rest_load f c x y) y)

    resting-by : resting f K P T j E x y ≡ by (edge? f K P j) (chains? f K P (suc j))
    unfolding resting rests_from rests_to way_at rule_by
    resting-by = refl

    found-by : (r a b n : ℕ) (steps : List ℕ) → r ≡ rule? f K nothing (bit chains) x y → a ≡ cond (eqb r 6) x (source_of f x) → b ≡ cond (eqb r 6) (rest_load f (bit chains) x y) y
        → take n steps ≡ way_of (bit edges) (bit chains) RECORDS a b → resting_on T E r x y a (take n steps) b ≡ by (bit edges) (bit chains)
    found-by r a b n steps er ea eb ew =
        let a' = ea ∙ ap (λ r. cond (eqb r 6) x (source_of f x)) er in
        let b' = eb ∙ ap (λ r. cond (eqb r 6) (rest_load f (bit chains) x y) y) er in
        ap₂ (λ (p : ℕ × ℕ) (q : List ℕ × ℕ). resting_on T E p.0 x y p.1 q.0 q.1) (ap₂ (λ u v. (u, v)) er a') (ap₂ (λ u v. (u, v)) (ew ∙ ap₂ (way_of (bit edges) (bit chains) RECORDS) a' b') b')

  pub prior-rests : rule_by f K nothing x y ≡ 0 → (eqb k 0 || bit edges x y) ≡ false → (r a b n : ℕ) (steps : List ℕ)
      → r ≡ rule? f K nothing (bit chains) x y → a ≡ cond (eqb r 6) x (source_of f x) → b ≡ cond (eqb r 6) (rest_load f (bit chains) x y) y
      → take n steps ≡ way_of (bit edges) (bit chains) RECORDS a b
      → (j < k) × ((E : List Claim) → inside E x y ≡ false → tell f K P k E x y ≡ resting_on (tell f K P j) E r x y a (take n steps) b)
  prior-rests z t r a b n steps er ea eb ew = (
    low,
    λ E out.
        came E out
        ∙ tell-rests f K P E x y out z j (sym (ap (λ (e : Table). e x y) edges-same) ∙ off (λ u. no (inr u)))
        ∙ resting-by (tell f K P j) E
        ∙ sym (ap₂ (by (tell f K P j) E) edges-same chains-same)
        ∙ sym (found-by (tell f K P j) E r a b n steps er ea eb ew),
  )
    where
      no : (k ≡ 0) ⊎ So (bit edges x y) → ⊥
      no u = false≢true (sym t ∙ alone-iff.1 u)

      low : j < k
      low = before (λ q. no (inl q))

      came : (E : List Claim) → inside E x y ≡ false → tell f K P k E x y ≡ tell f K P (suc j) E x y
      came E out = elim prior.comes [
        | inl l ↦ ap (λ k. tell f K P k E x y) (let q : k ≡ suc j = omega (arith, low) in q)
        | inr e ↦ down f K P E x y out z (suc j) (later (suc j) e) (k - suc j) k (omega (arith, low))
      ]

-- rows of 0 have no chains
pub rule-bare : (f : Frame) (K : Table) (n x y : ℕ) → rule? f K nothing (bit (empty_of n)) x y ≡ rule_by f K nothing x y
unfolding rule_by
rule-bare f K n x y = ap (λ C. rule? f K nothing C x y) (fun_ext (λ a. fun_ext (λ b. empty-bit n a b)))

pub bare-alone : (f : Frame) (K P : Table) (k x y n b : ℕ) → b ≡ rule? f K nothing (bit (empty_of n)) x y → b ≢ 0 → (E : List Claim) → inside E x y ≡ false
    → tell f K P k E x y ≡ record { rule = b; from = x; to = y; rests = [] } ∷ []
bare-alone f K P k x y n b e d E out =
    let q = e ∙ rule-bare f K n x y in
    tell-bare f K P E x y out k (λ z. d (q ∙ z)) ∙ ap (λ r. record { rule = r; from = x; to = y; rests = [] } ∷ []) (sym q)

pub source-small : (f : Frame) (L : ℕ) → source_of f L ≤ RECORDS
unfolding source_of
source-small f L = go (lowest (λ S. source? f S L) RECORDS 0) (lowest-iff _ Here RECORDS (λ S h. (λ t. (h, t), λ b. b.1)) (λ S b. b.0) RECORDS 0 (omega arith) (λ S b. omega arith))
  where
    Here : ℕ → Type 0
    Here S = (S < RECORDS) × So (source? f S L)

    go : (o : Option ℕ) → Lowest Here o → elim o [ some S ↦ S | none ↦ RECORDS ] ≤ RECORDS
    go (some S) l = omega (arith, l.0.0)
    go none l = omega arith

module _ (E : List Claim) (x y : ℕ) where
  Here : ℕ → Type 0
  Here i = (i < length E) × So (eqb (edge_at E i).from x && eqb (edge_at E i).to y)

  pub inside-place : (entry_place E x y < length E → So (inside E x y)) × (length E ≤ entry_place E x y → inside E x y ≡ false)
  unfolding entry_place inside Here
  inside-place = go (lowest t (length E) 0) (lowest-iff _ Here (length E) (λ i h. (λ u. (h, u), λ b. b.1)) (λ i b. b.0) (length E) 0 (omega arith) (λ i b. omega arith))
    where
      t : ℕ → Bool
      t i = eqb (edge_at E i).from x && eqb (edge_at E i).to y

      go : (o : Option ℕ) → Lowest Here o
          → (elim o [ some i ↦ i | none ↦ length E ] < length E → So (any (length E) t)) × (length E ≤ elim o [ some i ↦ i | none ↦ length E ] → any (length E) t ≡ false)
      go (some i) l = (λ _. (so-any (length E) t).1 (i, l.0.0, l.0.1), λ h. absurd (omega (arith, l.0.0, h)))
      go none l = (λ h. absurd (omega (arith, h)), λ _. off (λ u. let p = (so-any (length E) t).0 u in l p.0 (p.1, p.2)))

module _ (f : Frame) (K P : Table) (k x y : ℕ) (steps : List ℕ) where
  pub rests-alone : (r : Rest) (b : ℕ) → r.rule ≡ b → r.chain ≡ None
      → ((E : List Claim) → inside E x y ≡ false → tell f K P k E x y ≡ record { rule = b; from = x; to = y; rests = [] } ∷ []) → RestsOn f K P k x y steps r.rule r.chain
  rests-alone r b e n h =
      subst (RestsOn f K P k x y steps r.rule) (sym n) (λ E out. h E out ∙ ap (λ b. record { rule = b; from = x; to = y; rests = [] } ∷ []) (sym e))

  module _ (r : ℕ) where
    pub rests-resting : (o : std.Option Chain) (c : Chain) → RestsOn f K P k x y steps r o → o ≡ Some c → Resting f K P k x y steps r c
    rests-resting o c h e = subst (RestsOn f K P k x y steps r) e h

    -- the edge is told in the branch of the arrays, which does not name it
    module _ (limit : ℕ) (from to out : List ℕ) (n at : ℕ) (new : inside (branch_of from to n) x y ≡ false) (from' to' out' : List ℕ) (a : std.Option (ℕ × ℕ)) where
      pub told-alone : (o : std.Option Chain) → RestsOn f K P k x y steps r o → o ≡ None → EntriesTold limit from to out n at (record { rule = r; from = x; to = y; rests = [] } ∷ []) from' to' out' a
          → EntriesTold limit from to out n at (tell f K P k (branch_of from to n) x y) from' to' out' a
      told-alone o rest e h = subst (λ (es : List Entry). EntriesTold limit from to out n at es from' to' out' a) (sym (alone (branch_of from to n) new)) h
        where
          alone : RestsOn f K P k x y steps r None
          alone = subst (RestsOn f K P k x y steps r) e rest

      module _ (c : Chain) (rest : Resting f K P k x y steps r c) where
        abbrev whole : List Entry
        whole = along (tell f K P c.number) (branch_of from to n) c.from (take c.len steps) c.to

        abbrev entry_by : List Claim → Entry
        entry_by B = record { rule = r; from = x; to = y; rests = numbers B c.from (take c.len steps) c.to }

        pub told-short : EntriesTold limit from to out n at whole from' to' out' None → EntriesTold limit from to out n at (tell f K P k (branch_of from to n) x y) from' to' out' None
        told-short h =
            subst (λ (es : List Entry). EntriesTold limit from to out n at es from' to' out' None) (sym (rest.rests (branch_of from to n) new))
            (over_first limit from to out n at whole (entry_by (branch_of from to n ++ edges_of whole) ∷ []) h)

        pub told-resting : (from₁ to₁ out₁ : List ℕ) (m p : ℕ) → Done limit from to out n at whole from₁ to₁ out₁ m p
            → EntriesTold limit from₁ to₁ out₁ m p (entry_by (branch_of from₁ to₁ m) ∷ []) from' to' out' a → EntriesTold limit from to out n at (tell f K P k (branch_of from to n) x y) from' to' out' a
        told-resting from₁ to₁ out₁ m p d h =
            subst (λ (es : List Entry). EntriesTold limit from to out n at es from' to' out' a) (sym (rest.rests (branch_of from to n) new))
            (told-join limit from to out n at whole (entry_by (branch_of from to n ++ edges_of whole) ∷ []) from₁ to₁ out₁ m p d from' to' out' a
            (subst (λ (B : List Claim). EntriesTold limit from₁ to₁ out₁ m p (entry_by B ∷ []) from' to' out' a) d.branch h))
