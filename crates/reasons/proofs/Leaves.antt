-- A branch that closes.
--
--   ends-number   == where the branch has fallen, the rounds end at the first with a circle
--   steps         == the steps of a circle that was laid
--   circle-laid   == the circle that was laid of that round's edges is the one that closes the branch
--   told-short    == what is told of it fits the longest branch
--   branch-front  == the first places of a branch that grew are the branch that it was
--   closed-told, closed-full, closed-laid == what closes a branch: told, or no room for it; and then laid
--   leaf-empty, leaf-closes, leaf-short   == the same of a trace
use mathlib.Core.Path.{◌≡◌, refl, sym, ap, ap₂, ◌∙◌, subst}
use mathlib.Core.Logic.{◌↔◌, inl, inr}
use mathlib.Core.Bool.{Bool, So, false≢true}
use mathlib.Core.List.{List, [], ◌∷◌, ◌++◌}
use mathlib.Core.Option.{Option, none, some}
use Prim.Native.Nat.{ℕ, zero, suc, ◌+◌, ◌*◌, ◌-◌, ◌<◌, ◌≤◌}
use native.Mathlib.Nat.{add-zero, mul-le-mul}
use native.Mathlib.Omega.{arith}
use lib.ListN.{length, get_or, take, drop, length-drop, length-append, get_or-append}
use lib.Seq.{sets, take_all, ext_get_or}
use Rattle.laws.specs.Tests.{any}
use Rattle.laws.specs.Relation.{Table}
use Rattle.laws.proofs.Tests.{and-iff, same-iff, any-iff, test, three}
use Rattle.trace.specs.Bounds.{RECORDS}
use Rattle.trace.specs.WellFormed.{well_formed}
use Rattle.trace.specs.Meaning.{frame_of}
use Rattle.trace.specs.declared.Trace.{Trace}
use Rattle.trace.proofs.Good.{good}
use Rattle.rows.specs.Rows.{Edges}
use Rattle.rules.specs.Frame.{Frame, Good}
use Rattle.rules.specs.Rules.{Joins, InRecords, Chains, Edge as Forced}
use Rattle.rules.specs.Circle.{Run, Shown}
use Rattle.rules.specs.ComputedRounds.{chains?, edge?}
use Rattle.rules.specs.ComputedWalks.{shown?}
use Rattle.rules.proofs.Ends.{joins-within, step-within, chains-within}
use Rattle.rules.proofs.RuleTests.{chains-iff, edge-iff}
use Rattle.rules.proofs.Circle.{shown-one}
use Rattle.rules.proofs.Closing.{last-clear}
use Rattle.rules.proofs.Shown.{shown-computed}
use Rattle.pairs.specs.Kept.{modelled, kept_of}
use Rattle.pairs.proofs.KeptPairs.{kept-joins}
use Rattle.pairs.proofs.ValidOrders.{well-fits}
use Rattle.edges.specs.Supposed.{supposed_of}
use Rattle.edges.specs.LastRound.{Ends}
use Rattle.edges.specs.ForcedPairs.{Rounded}
use Rattle.edges.specs.declared.force.Round.{Round}
use Rattle.edges.proofs.Supposed.{supposed-joins}
use Rattle.circle.specs.ShownIn.{circle_of, ShownIn}
use Rattle.circle.proofs.CircleOf.{shown-same}
use Rattle.papers.specs.Paper.{BRANCH, Claim, Entry, edge_at, spell}
use Rattle.papers.specs.inner.ReaderBranch.{branch_of}
use Rattle.papers.proofs.Branches.{branch-long, branch-at}
use Rattle.reasons.specs.inner.Fair.{Named, Fair}
use Rattle.reasons.specs.Telling.{edges_of, inside, numbers, along, tell}
use Rattle.reasons.specs.Writing.{circle_entry, fallen, circle_round, closing, leaf_of}
use Rattle.reasons.specs.inner.Laid.{PutAt, Done, EntriesTold}
use Rattle.reasons.specs.inner.PutKept.{PutKept}
use Rattle.std.specs.Prelude.{Some, None}
use Rattle.std.specs.Prelude as std
use Rattle.reasons.proofs.Names.{inside-iff, named-grow}
use Rattle.reasons.proofs.Short.{distinct-short}
use Rattle.reasons.proofs.Places.{sets-join}
use Rattle.reasons.proofs.Telling.{edges-long, says-fair, along-says, tell-says}
use Rattle.reasons.proofs.Joining.{spell-append, spell-long, told-on, told_over}
use Rattle.reasons.proofs.Writing.{branch-closing, round-circle}

-- what follows the first of a circle that was laid, as the code takes it
abbrev pub steps : ℕ → List ℕ → List ℕ
steps len laid = take (len - 1) (take (RECORDS - 1) (drop 1 laid))

steps-are : (len : ℕ) (laid : List ℕ) → length laid ≡ RECORDS → take (len - 1) (drop 1 laid) ≡ steps len laid
steps-are len laid e =
    let h : length (drop 1 laid) ≤ RECORDS - 1 = omega (arith, e, length-drop 1 laid) in
    ap (take (len - 1)) (sym (take_all (RECORDS - 1) (drop 1 laid) h))

module _ (f : Frame) (g : Good f) (small : f.records ≤ RECORDS) (K : Table) (jK : Joins f K) (E : List Claim) (j : Joins f (inside E)) (fell : So (fallen f K E)) where
  inK : InRecords f K
  inK = joins-within f g K jK

  in_p : InRecords f (inside E)
  in_p = joins-within f g (inside E) j

  within : (k x y : ℕ) → Forced f K (inside E) k x y → (x < f.records) × (y < f.records)
  within k x y e = step-within f g K (inside E) inK in_p (Chains f K (inside E) k) x y e

  -- a circle of round k, as a test
  circled-iff : (k : ℕ) → So (any f.records (λ x. chains? f K (inside E) (suc k) x x)) ↔ ((x : ℕ) × Chains f K (inside E) (suc k) x x)
  circled-iff k =
      let a = any-iff (λ x. chains-iff f g K (inside E) inK in_p (suc k) x x) in
      (λ t. let r = a.0 t in (r.0, r.2), λ c. a.1 (c.0, (chains-within f g K (inside E) inK in_p (suc k) c.0 c.0 c.1).0, c.1))

  module _ (k : ℕ) (c : Bool) (b e h : List ℕ) (d : Ends f K (inside E) k c b e h) where
    ends-circled : So c
    ends-circled = elim (test c) [
      | inl s ↦ s
      | inr n ↦ absurd
          (last-clear f K (inside E) k (d.last (λ s. false≢true (sym n ∙ s))) (λ x l. false≢true (sym n ∙ d.circle-is.1 (x, l))) ((branch-closing f g K jK E j).contradicted.0 fell))
    ]

    pub ends-number : k ≡ circle_round f K (inside E)
    ends-number =
        let r = round-circle f g small K jK E fell in
        elim (three k (circle_round f K (inside E))) [
          | inl l ↦ absurd (r.1 k l ((circled-iff k).1 (d.circle-is.0 ends-circled)))
          | inr o ↦ elim o [ inl q ↦ q | inr l ↦ let c = (circled-iff (circle_round f K (inside E))).0 r.0 in absurd ((d.earlier (circle_round f K (inside E)) l).clear c.0 c.1) ]
        ]

    -- the circle as it was laid
    module _ (len : ℕ) (laid : List ℕ) (s : ShownIn e RECORDS len laid) where
      shown-laid : Shown (Forced f K (inside E) k) (circle_of len laid)
      shown-laid = shown-same (Edges e) (Forced f K (inside E) k) d.edges-has (circle_of len laid) (s.shown d.edges-full.long refl)

      same-shown : shown? f.records (edge? f K (inside E) k) ≡ circle_of len laid
      same-shown = shown-one (Forced f K (inside E) k) _ _ (shown-computed (Forced f K (inside E) k) f.records (within k) (edge? f K (inside E) k) (edge-iff f g K (inside E) inK in_p k)) shown-laid

      abbrev closes : ℕ → Option (List ℕ) → List Entry
      closes k o = elim o [ some c ↦ elim c [ [] ↦ [] | s ∷ zs ↦ closing f K k E s zs ] | none ↦ [] ]

      leaf-shown : leaf_of f K E ≡ closes k (circle_of len laid)
      unfolding leaf_of
      leaf-shown = ap (λ k. closes k (shown? f.records (edge? f K (inside E) k))) (sym ends-number) ∙ ap (closes k) same-shown

      pub leaf-none : len ≡ 0 → leaf_of f K E ≡ []
      unfolding circle_of
      leaf-none z = leaf-shown ∙ ap (λ n. closes k (circle_of n laid)) z

      pub circle-laid : 0 < len → leaf_of f K E ≡ closing f K k E (get_or laid 0 0) (steps len laid)
      unfolding circle_of
      circle-laid p = leaf-shown ∙ go len laid p (omega (arith, s.long, s.fits)) ∙ ap (closing f K k E (get_or laid 0 0)) (steps-are len laid s.long)
        where
          go : (n : ℕ) (l : List ℕ) → 0 < n → n ≤ length l → closes k (circle_of n l) ≡ closing f K k E (get_or l 0 0) (take (n - 1) (drop 1 l))
          go zero l p h = absurd (omega arith)
          go (suc n) [] p h = absurd (omega arith)
          go (suc n) (x ∷ xs) p h = ap (λ m. closing f K k E x (take m xs)) (let q : n ≡ suc n - 1 = omega arith in q)

      round-run : 0 < len → Run (Forced f K (inside E) k) (get_or laid 0 0) (steps len laid) (get_or laid 0 0)
      unfolding circle_of
      round-run p =
          subst (λ (zs : List ℕ). Run (Forced f K (inside E) k) (get_or laid 0 0) zs (get_or laid 0 0)) (steps-are len laid s.long) (go len laid p (omega (arith, s.long, s.fits)) shown-laid)
        where
          go : (n : ℕ) (l : List ℕ) → 0 < n → n ≤ length l → Shown (Forced f K (inside E) k) (circle_of n l) → Run (Forced f K (inside E) k) (get_or l 0 0) (take (n - 1) (drop 1 l)) (get_or l 0 0)
          go zero l p h s = absurd (omega arith)
          go (suc n) [] p h s = absurd (omega arith)
          go (suc n) (x ∷ xs) p h s = subst (λ (m : ℕ). Run (Forced f K (inside E) k) x (take m xs) x) (let q : n ≡ suc n - 1 = omega arith in q) s.0

      pub told-short : Fair f.records E → 0 < len → length E + length (along (tell f K (inside E) k) E (get_or laid 0 0) (steps len laid) (get_or laid 0 0)) ≤ BRANCH
      told-short fair p =
          let x = get_or laid 0 0 in
          let zs = steps len laid in
          let es = along (tell f K (inside E) k) E x zs x in
          let w = along-says f K (Forced f K (inside E) k) f.records (within k) (tell f K (inside E) k)
          (λ B. (x y : ℕ) → So (inside E x y) → Named B x y) (λ B F h x y i. named-grow B F x y (h x y i))
          (tell-says f g small K (inside E) inK in_p k (λ j l. (d.earlier j l).clear)) zs E (λ x y i. (inside-iff E x y).0 i) fair x x (round-run p) in
          let u = says-fair f K (Forced f K (inside E) k) f.records (within k) E es (λ B. Run (Named B) x zs x) fair w in
          let a : length (E ++ edges_of es) ≤ f.records * f.records = distinct-short f.records u.once u.below in
          let l : f.records * f.records ≤ RECORDS * RECORDS = mul-le-mul small small in
          omega (arith, a, l, length-append E (edges_of es), edges-long es)

pub branch-front : (from to : List ℕ) (n : ℕ) (from' to' : List ℕ) (m : ℕ) (F : List Claim) → n ≤ m → branch_of from' to' m ≡ branch_of from to n ++ F → branch_of from' to' n ≡ branch_of from to n
branch-front from to n from' to' m F l e =
    ext_get_or (record { from = 0; to = 0 }) (branch_of from' to' n) (branch_of from to n) (branch-long from' to' n ∙ sym (branch-long from to n))
    (λ i h. let q : i < n = omega (arith, h, branch-long from' to' n) in
    branch-at from' to' n i q ∙ sym (branch-at from' to' m i (omega arith)) ∙ ap (λ E. edge_at E i) e ∙ get_or-append (branch_of from to n) F (record { from = 0; to = 0 }) i (omega (arith, q, branch-long from to n)))

-- what closes a branch: its circle told, and then the entry of it
module _ (f : Frame) (K P : Table) (k limit : ℕ) (from to out : List ℕ) (n at s : ℕ) (zs : List ℕ) (q : P ≡ inside (branch_of from to n)) where
  abbrev E : List Claim
  E = branch_of from to n

  abbrev circling : Table → List Entry
  circling P = along (tell f K P k) E s zs s

  abbrev rests : List ℕ
  rests = numbers (E ++ edges_of (circling (inside E))) s zs s

  -- by the pairs that the branch names
  by-branch : (from₁ to₁ out₁ : List ℕ) (r : std.Option (ℕ × ℕ)) → EntriesTold limit from to out n at (circling P) from₁ to₁ out₁ r → EntriesTold limit from to out n at (circling (inside E)) from₁ to₁ out₁ r
  by-branch from₁ to₁ out₁ r = subst (λ (P : Table). EntriesTold limit from to out n at (circling P) from₁ to₁ out₁ r) q

  pub closed-full : (from₁ to₁ out₁ : List ℕ) (r : std.Option (ℕ × ℕ)) → EntriesTold limit from to out n at (circling P) from₁ to₁ out₁ r → r ≡ None → n + length (circling (inside E)) ≤ BRANCH
      → limit < at + length (spell (closing f K k E s zs))
  unfolding closing
  closed-full from₁ to₁ out₁ r d o l = elim (told_over limit from to out n at (circling (inside E)) from₁ to₁ out₁ r (by-branch from₁ to₁ out₁ r d) o) [
    | inl h ↦ omega (arith, h, spell-long (circling (inside E)) (circle_entry s rests ∷ []))
    | inr h ↦ absurd (omega arith)
  ]

  module _ (from₁ to₁ out₁ : List ℕ) (r : std.Option (ℕ × ℕ)) (m p : ℕ) (told : EntriesTold limit from to out n at (circling P) from₁ to₁ out₁ r) (o : r ≡ Some (m, p)) where
    pub closed-told : Done limit from to out n at (circling (inside E)) from₁ to₁ out₁ m p
    closed-told = told-on limit from to out n at (circling (inside E)) from₁ to₁ out₁ r m p (by-branch from₁ to₁ out₁ r told) o

    pub closed-laid : (is : List ℕ) → is ≡ numbers (branch_of from₁ to₁ m) s zs s → (out₂ : List ℕ) (r : std.Option ℕ) → PutAt limit out₁ p (spell (circle_entry s is ∷ [])) out₂ r
        → PutKept limit from to n out at (spell (closing f K k E s zs)) from₁ to₁ out₂ r
    unfolding closing
    closed-laid is e out₂ r h = go r (subst (λ (js : List ℕ). PutAt limit out₁ p (spell (circle_entry s js ∷ [])) out₂ r) (e ∙ ap (λ B. numbers B s zs s) d.branch) h)
      where
        d : Done limit from to out n at (circling (inside E)) from₁ to₁ out₁ m p
        d = closed-told

        es : List Entry
        es = circling (inside E)

        end : List Entry
        end = circle_entry s rests ∷ []

        go : (r : std.Option ℕ) → PutAt limit out₁ p (spell (circle_entry s rests ∷ [])) out₂ r → PutKept limit from to n out at (spell (circling (inside E) ++ circle_entry s rests ∷ [])) from₁ to₁ out₂ r
        go (Some o) (a, b, w) = (
          omega (arith, a, d.placed, spell-long es end),
          b,
          w ∙ ap₂ (λ o j. sets o j (spell end)) d.laid d.placed ∙ sets-join out at (spell es) (spell end) ∙ ap (sets out at) (sym (spell-append es end)),
          branch-front from to n from₁ to₁ m (edges_of es) (omega (arith, d.counted)) d.branch,
        )
        go None h = omega (arith, h, d.placed, spell-long es end)

-- the same of a trace, by what its functions promise
module _ (t : Trace) (m : ℕ) (rows : List ℕ) (E : List Claim) (w : So (well_formed t)) (o : So (modelled m)) (q : supposed_of t rows ≡ inside E) (fell : So (fallen (frame_of t) (kept_of m t) E))
    (r : Round) (d : Rounded t m rows r) (len : ℕ) (laid : List ℕ) (s : ShownIn r.edges RECORDS len laid) where
  small : (frame_of t).records ≤ RECORDS
  unfolding frame_of
  small = well-fits t w

  joined : Joins (frame_of t) (inside E)
  joined = subst (Joins (frame_of t)) q (supposed-joins t rows)

  ends : Ends (frame_of t) (kept_of m t) (inside E) r.number r.circle r.before r.edges r.chains
  ends =
      subst (λ (P : Table). Ends (frame_of t) (kept_of m t) P r.number r.circle r.before r.edges r.chains) q
      (d.ended ((and-iff {a = well_formed t} {b = modelled m} same-iff same-iff).1 (w, o)))

  pub leaf-empty : len ≡ 0 → (limit : ℕ) (from to : List ℕ) (n : ℕ) (out : List ℕ) (at : ℕ) → at ≤ limit → PutKept limit from to n out at (spell (leaf_of (frame_of t) (kept_of m t) E)) from to out (Some at)
  unfolding spell
  leaf-empty z limit from to n out at l =
      subst (λ (es : List Entry). PutKept limit from to n out at (spell es) from to out (Some at))
      (sym (leaf-none (frame_of t) (good t w) small (kept_of m t) (kept-joins m t) E joined fell r.number r.circle r.before r.edges r.chains ends len laid s z))
      (sym (add-zero at), l, refl, refl)

  pub leaf-closes : 0 < len → leaf_of (frame_of t) (kept_of m t) E ≡ closing (frame_of t) (kept_of m t) r.number E (get_or laid 0 0) (steps len laid)
  leaf-closes p = circle-laid (frame_of t) (good t w) small (kept_of m t) (kept-joins m t) E joined fell r.number r.circle r.before r.edges r.chains ends len laid s p

  pub leaf-short : Fair (frame_of t).records E → 0 < len
      → length E + length (along (tell (frame_of t) (kept_of m t) (inside E) r.number) E (get_or laid 0 0) (steps len laid) (get_or laid 0 0)) ≤ BRANCH
  leaf-short fair p = told-short (frame_of t) (good t w) small (kept_of m t) (kept-joins m t) E joined fell r.number r.circle r.before r.edges r.chains ends len laid s fair p
