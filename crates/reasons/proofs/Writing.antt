-- The list that the writer makes for a trace without a valid order closes, splits as it should, and names no edge of a branch twice.
--
--   branch-closing == fallen and held_in say what is contradicted and held in a branch
--   grows          == a split's side that is not contradicted holds more
--   leaf-written   == the list of a branch with a circle
--   paper-closable == a branch that no valid order keeps closes
--   paper-leaf, paper-parts == the list of a branch, by whether it has a circle
--   chosen-open    == a pair that is chosen is open
--   paper-written  == the list of a branch that closes
--   paper-closes   == the empty branch closes, where there is no valid order
--   paper-right    == so the list of a whole trace is accepted exactly where there is no valid order
--   paper-wrote    == and then it splits as it should, and names no edge of a branch twice
use mathlib.Core.Path.{◌≡◌, refl, sym, ap, ◌∙◌, subst, subst⁻¹}
use mathlib.Core.Logic.{◌↔◌, ◌⊎◌, inl, inr}
use mathlib.Core.Bool.{Bool, true, false, So, false≢true}
use mathlib.Core.List.{List, [], ◌∷◌, ◌++◌}
use mathlib.Core.Option.{Option, none, some}
use Prim.Native.Nat.{ℕ, zero, suc, ◌+◌, ◌*◌, ◌<◌, ◌≤◌}
use native.Mathlib.Nat.{not-suc-le-zero}
use native.Mathlib.Omega.{arith}
use Rattle.laws.specs.Tests.{any}
use Rattle.laws.specs.Relation.{Table, ◌⊆◌}
use Rattle.laws.specs.Lowest.{Lowest, lowest}
use Rattle.laws.specs.inner.Sorted.{On, sorted}
use Rattle.laws.proofs.GrowingTables.{pairs}
use Rattle.laws.proofs.Tests.{any-iff, test}
use Rattle.laws.proofs.Lowest.{lowest-iff}
use Rattle.laws.proofs.Growth.{pairs-bound, pairs-more}
use Rattle.trace.specs.Bounds.{RECORDS}
use Rattle.rules.specs.Frame.{Frame, Good}
use Rattle.rules.specs.Order.{Keeps, Valid}
use Rattle.rules.specs.Rules.{Contradicted, Joins, InRecords, Chains, Edge as Forced, rule7, rule8}
use Rattle.rules.specs.Circle.{Shown}
use Rattle.rules.proofs.ClearOrders.{SettlesLoads}
use Rattle.rules.specs.Missing.{Sourced}
use Rattle.rules.specs.Closing.{Closing}
use Rattle.rules.specs.ComputedRounds.{chains?, edge?}
use Rattle.rules.specs.ComputedWalks.{shown?}
use Rattle.rules.proofs.Rounds.{more-pairs, held-closed}
use Rattle.rules.proofs.Ends.{joins-within, step-within, chains-within}
use Rattle.rules.proofs.RuleTests.{chains-iff, edge-iff}
use Rattle.rules.proofs.Circle.{circle-none}
use Rattle.rules.proofs.Closing.{contradicted?, held?, closing-computed}
use Rattle.rules.proofs.Shown.{shown-computed}
use Rattle.rules.proofs.Sorted.{held-valid, held-step}
use Rattle.papers.specs.Paper.{Claim, named, branch_room, accepted}
use Rattle.papers.proofs.Sound.{accepted-sound}
use Rattle.reasons.specs.inner.Fair.{Named, none_yet, Fair}
use Rattle.reasons.specs.Telling.{edges_of, inside, numbers, along, tell}
use Rattle.reasons.specs.inner.Closable.{Closable, closes, parts}
use Rattle.reasons.specs.Writing.{split_entry, fallen, held_in, open?, choose, circle_round, closing, leaf_of, paper_of, paper}
use Rattle.reasons.proofs.Names.{inside-iff, named-grow, named-last, named-cases}
use Rattle.reasons.proofs.Short.{fair-one, roomy-new}
use Rattle.reasons.proofs.Written.{Written, circle, split, written-accepted}
use Rattle.reasons.proofs.Telling.{numbers-chained, along-says, tell-says}
use Rattle.reasons.proofs.Choosing.{Found, choose-found, Open, open-iff, read-from}

module _ (f : Frame) (g : Good f) (K : Table) (jK : Joins f K) where
  abbrev None : List Claim → Type 0
  None E = (xs : List ℕ) → Valid f K xs → Keeps (inside E) xs → ⊥

  pub branch-closing : (E : List Claim) → Joins f (inside E) → Closing f K (inside E) (fallen f K E) (held_in f K E)
  unfolding fallen held_in contradicted? held?
  branch-closing E j = closing-computed f K (inside E) g (joins-within f g K jK) (joins-within f g (inside E) j)

  -- a branch with one edge more
  module _ (E : List Claim) (x y : ℕ) where
    more : On (inside E) ⊆ On (inside (named E x y))
    more a b u = (inside-iff (named E x y) a b).1 (named-grow E (record { from = x; to = y } ∷ []) a b ((inside-iff E a b).0 u))

    new : So (inside (named E x y) x y)
    new = (inside-iff (named E x y) x y).1 (named-last E x y)

    pub still-joins : Joins f (inside E) → So (f.operation x) → So (f.operation y) → Joins f (inside (named E x y))
    still-joins j p q a b u = elim (named-cases E x y a b ((inside-iff (named E x y) a b).0 u)) [
      | inl n ↦ j a b ((inside-iff E a b).1 n)
      | inr e ↦ (subst (λ (a : ℕ). So (f.operation a)) e.0 p, subst (λ (b : ℕ). So (f.operation b)) e.1 q)
    ]

    still-none : None E → None (named E x y)
    still-none n xs v k = n xs v (λ a b u. k a b (more a b u))

    grows : Joins f (inside E) → Joins f (inside (named E x y)) → (So (fallen f K (named E x y)) → ⊥) → So (f.operation x) → So (f.operation y)
        → (So (held_in f K E x y) → ⊥) → pairs f.records (held_in f K E) < pairs f.records (held_in f K (named E x y))
    grows j j' clear p q out =
        let c = branch-closing E j in
        let c' = branch-closing (named E x y) j' in
        let free : Contradicted f K (inside (named E x y)) → ⊥ = λ b. clear (c'.contradicted.1 b) in
        pairs-more f.records (held_in f K E) (held_in f K (named E x y))
        (λ a b u. (c'.held a b).1 (more-pairs f K (inside E) (inside (named E x y)) more a b ((c.held a b).0 u).0, free))
        x y (g.below x p) (g.below y q) ((c'.held x y).1 (held-closed f K (inside (named E x y)) x y (8, rule8 new), free)) out

module _ (f : Frame) (g : Good f) (small : f.records ≤ RECORDS) (K : Table) (jK : Joins f K) where
  -- the first round with a circle has one, and none before it does
  abbrev Circling : List Claim → ℕ → Type 0
  Circling E k = So (any f.records (λ x. chains? f K (inside E) (suc k) x x)) × ((j : ℕ) → j < k → So (any f.records (λ x. chains? f K (inside E) (suc j) x x)) → ⊥)

  pub round-circle : (E : List Claim) → So (fallen f K E) → Circling E (circle_round f K (inside E))
  unfolding circle_round fallen
  round-circle E c = go (lowest (λ k. any f.records (λ x. chains? f K (inside E) (suc k) x x)) (suc (f.records * f.records)) 0)
      (lowest-iff _ At (suc (f.records * f.records)) (λ k h. (λ s. (h, s), λ r. r.1)) (λ k r. r.0) (suc (f.records * f.records)) 0 (omega arith) (λ k r. omega arith))
    where
      At : ℕ → Type 0
      At k = (k < suc (f.records * f.records)) × So (any f.records (λ x. chains? f K (inside E) (suc k) x x))

      go : (o : Option ℕ) → Lowest At o → Circling E (elim o [ some k ↦ k | none ↦ 0 ])
      go (some k) l = (l.0.1, λ j h s. omega (arith, l.1 j (omega (arith, l.0.0), s)))
      go none l = absurd (l (f.records * f.records) (omega arith, c))

  pub leaf-written : (E : List Claim) → Fair f.records E → Joins f (inside E) → So (fallen f K E) → Written f K E (leaf_of f K E)
  unfolding leaf_of closing
  leaf-written E d j c = go (shown? f.records (edge? f K P r)) (shown-computed (Forced f K P r) f.records (within r) (edge? f K P r) (edge-iff f g K P inK in_p r))
    where
      P : Table
      P = inside E

      r : ℕ
      r = circle_round f K (inside E)

      inK : InRecords f K
      inK = joins-within f g K jK

      in_p : InRecords f (inside E)
      in_p = joins-within f g (inside E) j

      within : (k x y : ℕ) → Forced f K (inside E) k x y → (x < f.records) × (y < f.records)
      within k x y e = step-within f g K (inside E) inK in_p (Chains f K (inside E) k) x y e

      circled : (x : ℕ) × (x < f.records) × Chains f K (inside E) (suc (circle_round f K (inside E))) x x
      circled = (any-iff (λ x. chains-iff f g K (inside E) inK in_p (suc (circle_round f K (inside E))) x x)).0 (round-circle E c).0

      -- no chain of a round before leads from a record to itself
      circleless : (j : ℕ) → j < circle_round f K (inside E) → (x : ℕ) → Chains f K (inside E) (suc j) x x → ⊥
      circleless j l x h = (round-circle E c).1 j l
          ((any-iff (λ x. chains-iff f g K (inside E) inK in_p (suc j) x x)).1 (x, (chains-within f g K (inside E) inK in_p (suc j) x x h).0, h))

      go : (o : Option (List ℕ)) → Shown (Forced f K (inside E) (circle_round f K (inside E))) o
          → Written f K E (elim o [ some c ↦ elim c [ [] ↦ [] | s ∷ zs ↦ closing f K (circle_round f K (inside E)) E s zs ] | none ↦ [] ])
      go none s = absurd ((circle-none (Forced f K (inside E) (circle_round f K (inside E)))).0 s circled.0 circled.2)
      go (some []) s = absurd s.0
      go (some (x ∷ zs)) s =
          let k = circle_round f K (inside E) in
          let t = tell f K (inside E) k in
          let es = along t E x zs x in
          let u = along-says f K (Forced f K (inside E) k) f.records (within k) t
          (λ B. (x y : ℕ) → So (inside E x y) → Named B x y) (λ B F h x y i. named-grow B F x y (h x y i))
          (tell-says f g small K (inside E) inK in_p k circleless) zs E (λ x y i. (inside-iff E x y).0 i) d x x s.0 in
          circle es x (numbers (E ++ edges_of es) x zs x) u.runs u.once (numbers-chained (E ++ edges_of es) x zs x u.told)

  module _ (m : Sourced f) where
    abbrev Below : ℕ → List Claim → Type 0
    Below k E = So (fallen f K E) ⊎ (f.records * f.records < k + pairs f.records (held_in f K E))

    pub paper-closable : (k : ℕ) (E : List Claim) → Fair f.records E → Joins f (inside E) → None f g K jK E → Below k E → Closable f K k E
    paper-closable zero E d j n (inl c) = closes d c
    paper-closable zero E d j n (inr h) = absurd (omega (arith, pairs-bound f.records (held_in f K E)))
    paper-closable (suc k) E d j n h = go (fallen f K E) refl (paper-closable k)
      where
        Rest : Type 0
        Rest = (E : List Claim) → Fair f.records E → Joins f (inside E) → None f g K jK E → Below k E → Closable f K k E

        shuts : Closing f K (inside E) (fallen f K E) (held_in f K E)
        shuts = branch-closing f g K jK E j

        below : (So (fallen f K E) → ⊥) → f.records * f.records < suc k + pairs f.records (held_in f K E)
        below clear = elim h [ inl c ↦ absurd (clear c) | inr l ↦ l ]

        -- what is named is held
        unnamed : fallen f K E ≡ false → (x y : ℕ) → (So (held_in f K E x y) → ⊥) → Named E x y → ⊥
        unnamed q x y out z = out ((shuts.held x y).1 (held-closed f K (inside E) x y (8, rule8 ((inside-iff E x y).1 z)), λ b. false≢true (sym q ∙ shuts.contradicted.1 b)))

        -- one side of a split
        side : Rest → fallen f K E ≡ false → (x y : ℕ) → So (f.operation x) → So (f.operation y) → (So (held_in f K E x y) → ⊥) → Closable f K k (named E x y)
        side rest q x y a b out =
            let clear : So (fallen f K E) → ⊥ = λ c. false≢true (sym q ∙ c) in
            let j' = still-joins f g K jK E x y j a b in
            rest (named E x y) (fair-one f.records E d x y (unnamed q x y out) (g.below x a, g.below y b)) j' (still-none f g K jK E x y n) (elim (test (fallen f K (named E x y))) [
              | inl c ↦ inl c
              | inr c ↦ inr (omega (arith, below clear, grows f g K jK E x y j j' (λ t. false≢true (sym c ∙ t)) a b out))
            ])

        sides : Rest → fallen f K E ≡ false → (o : Option (ℕ × ℕ)) → choose f K E ≡ o → Found f.records (open? f K E) o → Closable f K (suc k) E
        sides rest q (some (x, y)) e s =
            let o = (open-iff f K E x y).0 s in
            let a = g.writes x o.0.0.0.0 in
            let b = g.writes y o.0.0.0.1.writes in
            let l : So (branch_room E) = roomy-new f.records E d x y (unnamed q x y o.0.1) (g.below x a, g.below y b) small in
            parts x y l q e (side rest q x y a b o.0.1) (side rest q y x b a o.1)
        sides rest q none e s = absurd (n (sorted f.operation (held_in f K E) f.records) v.0 v.1)
          where
            shut : Closing f K (inside E) false (held_in f K E)
            shut = subst (λ (b : Bool). Closing f K (inside E) b (held_in f K E)) q shuts

            settles : SettlesLoads f (On (held_in f K E))
            settles S S' L u w o = elim (test (held_in f K E S' S)) [
              | inl t ↦ inl t
              | inr t ↦ elim (test (held_in f K E S S')) [
                | inl t' ↦ inr (held-step f g K (inside E) (λ x y k. (jK x y k).0) (λ x y k. (j x y k).0) (held_in f K E) shut L S' (7, rule7 S u w o t'))
                | inr t' ↦ absurd (s S S' (g.below S (g.writes S u.writer.writes)) (g.below S' (g.writes S' w.writes)) ((open-iff f K E S S').1 (
                  (((u.writer.writes, record { writes = w.writes; same = w.same ∙ sym u.writer.same; other = o }), inl (read-from f g small S L u)), λ z. false≢true (sym t' ∙ z)),
                  λ z. false≢true (sym t ∙ z),
                )))
              ]
            ]

            v : Valid f K (sorted f.operation (held_in f K E) f.records) × Keeps (inside E) (sorted f.operation (held_in f K E) f.records)
            v = held-valid f g K (inside E) (λ x y k. (jK x y k).0) (λ x y k. (j x y k).0) (held_in f K E) shut m settles

        go : (b : Bool) → fallen f K E ≡ b → Rest → Closable f K (suc k) E
        go true q rest = closes d q
        go false q rest = sides rest q (choose f K E) refl (choose-found f K E)

  -- the list of a branch, by whether it has a circle
  pub paper-leaf : (k : ℕ) (E : List Claim) → So (fallen f K E) → paper_of f K k E ≡ leaf_of f K E
  unfolding paper_of
  paper-leaf zero E c = refl
  paper-leaf (suc k) E c = ap (λ (b : Bool). elim b [ true ↦ leaf_of f K E | false ↦ elim (choose f K E) [ some p ↦ split_entry p.0 p.1 ∷ paper_of f K k (named E p.0 p.1) ++ paper_of f K k (named E p.1 p.0) | none ↦ [] ] ]) c

  pub paper-parts : (k : ℕ) (E : List Claim) (x y : ℕ) → fallen f K E ≡ false → choose f K E ≡ some (x, y)
      → paper_of f K (suc k) E ≡ split_entry x y ∷ paper_of f K k (named E x y) ++ paper_of f K k (named E y x)
  unfolding paper_of
  paper-parts k E x y q e =
      ap (λ (b : Bool). elim b [ true ↦ leaf_of f K E | false ↦ elim (choose f K E) [ some p ↦ split_entry p.0 p.1 ∷ paper_of f K k (named E p.0 p.1) ++ paper_of f K k (named E p.1 p.0) | none ↦ [] ] ]) q
      ∙ ap (λ (o : Option (ℕ × ℕ)). elim o [ some p ↦ split_entry p.0 p.1 ∷ paper_of f K k (named E p.0 p.1) ++ paper_of f K k (named E p.1 p.0) | none ↦ [] ]) e

  -- a pair that is chosen is open
  pub chosen-open : (E : List Claim) (x y : ℕ) → choose f K E ≡ some (x, y) → Open f K E x y
  chosen-open E x y e = (open-iff f K E x y).0 (subst (λ (o : Option (ℕ × ℕ)). Found f.records (open? f K E) o) e (choose-found f K E))

  pub paper-written : {k : ℕ} {E : List Claim} → Closable f K k E → Joins f (inside E) → Written f K E (paper_of f K k E)
  paper-written (closes {m = k} {E} d c) j = subst⁻¹ (Written f K E) (paper-leaf k E c) (leaf-written E d j c)
  paper-written (parts {m = k} {E} x y l q e u v) j =
      let o = chosen-open E x y e in
      let a = g.writes x o.0.0.0.0 in
      let b = g.writes y o.0.0.0.1.writes in
      let shuts = branch-closing f g K jK E j in
      let free : Contradicted f K (inside E) → ⊥ = λ z. false≢true (sym q ∙ shuts.contradicted.1 z) in
      subst⁻¹ (Written f K E) (paper-parts k E x y q e)
      (split x y l a b (λ e. o.0.0.0.1.other (sym e)) free (λ t. o.0.1 ((shuts.held x y).1 (t, free))) (λ t. o.1 ((shuts.held y x).1 (t, free)))
      (paper-written u (still-joins f g K jK E x y j a b)) (paper-written v (still-joins f g K jK E y x j b a)))

module _ (f : Frame) (g : Good f) (small : f.records ≤ RECORDS) (K : Table) (jK : Joins f K) (m : Sourced f) where
  pub none-joined : Joins f (inside [])
  none-joined x y u = absurd (not-suc-le-zero ((inside-iff [] x y).0 u).1)

  pub paper-closes : ((xs : List ℕ) → Valid f K xs → ⊥) → Closable f K (suc (f.records * f.records)) []
  paper-closes n =
      paper-closable f g small K jK
      m (suc (f.records * f.records)) [] (record { once = none_yet; below = λ x y u. absurd (not-suc-le-zero u.1) })
      none-joined (λ xs v k. n xs v) (inr (omega arith))

  pub paper-wrote : ((xs : List ℕ) → Valid f K xs → ⊥) → Written f K [] (paper f K)
  paper-wrote n = paper-written f g small K jK (paper-closes n) none-joined

  pub paper-right : So (accepted f K (paper f K)) ↔ ((xs : List ℕ) → Valid f K xs → ⊥)
  paper-right = (accepted-sound f g K (paper f K), λ n. written-accepted f K (paper f K) (paper-wrote n))
