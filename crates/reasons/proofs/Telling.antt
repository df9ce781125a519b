-- What the writer tells is right: its entries run, name no edge twice, and name the edge in the end.
--
--   number_at, numbers-chained == the numbers of named edges in a row are a chain
--   Says f K D E es Q          == the entries es run from the branch E, name no edge twice, all that they name is in D, and the branch then has Q
--   says-fair                  == the branch then is fair
--   along-says                 == the edges of a way are told, where each can be
--   tell-says                  == an edge of any round is told
use mathlib.Core.Path.{◌≡◌, refl, sym, ap, ◌∙◌, subst}
use mathlib.Core.Logic.{◌≢◌, ◌↔◌, ◌⊎◌, inl, inr}
use mathlib.Core.Bool.{Bool, true, false, not, cond, So, ◌&&◌, false≢true}
use mathlib.Core.List.{List, [], ◌∷◌, ◌++◌, append_assoc, append-nil}
use mathlib.Core.Option.{Option, none, some}
use Prim.Native.Nat.{ℕ, zero, suc, ◌<◌, ◌≤◌}
use native.Mathlib.Omega.{arith}
use lib.Dec.{eqb}
use lib.ListN.{length}
use Rattle.laws.specs.Relation.{Rel, Table, ◌⊆◌}
use Rattle.laws.specs.Lowest.{Lowest, lowest}
use Rattle.laws.specs.inner.Sorted.{On}
use Rattle.laws.proofs.Tests.{and-iff, or-iff, not_iff, same-iff, so-eq, so-lt, so-le, off}
use Rattle.laws.proofs.Lowest.{lowest-iff}
use Rattle.trace.specs.Bounds.{RECORDS}
use Rattle.rules.specs.Frame.{Frame, Good, Source, Writer}
use Rattle.rules.specs.Rules.{Gives, rule1, rule2, rule3, rule4, rule5, rule6, rule7, rule8, Chains, Edge as Forced, InRecords, nothing}
use Rattle.rules.specs.Circle.{Run}
use Rattle.rules.specs.RuleTests.{gives?}
use Rattle.rules.specs.ComputedRounds.{chains?, edge?}
use Rattle.rules.specs.ShownCircle.{rule?}
use Rattle.pairs.specs.SourceOf.{source_of}
use Rattle.rules.proofs.RuleTests.{gives-iff, gives-small, chains-iff, edge-iff}
use Rattle.pairs.proofs.SourceOf.{source-of-is, source-of-has}
use Rattle.rules.proofs.Rounds.{edge-grow}
use Rattle.rules.proofs.Ends.{step-within, chains-within}
use Rattle.papers.specs.Paper.{CLOSE, SPLIT, CHAINED, Claim, Entry, edge_at, chained, branch_room, may_rest, fits, refutes}
use Rattle.reasons.specs.inner.Fair.{Named, Distinct, further, Fair}
use Rattle.reasons.specs.Telling.{edges_of, inside, entry_place, entry_number, numbers, along, rule_by, rest_load, bare_entry, rests_from, rests_to, way_at, resting, tell}
use Rattle.reasons.proofs.Names.{inside-iff, named-grow, named-last, named-cases, chained-one, chained_more}
use Rattle.reasons.proofs.Short.{roomy-new}
use Rattle.reasons.proofs.Written.{Runs, runs-edge}
use Rattle.reasons.proofs.Ways.{way-runs}

module _ (E : List Claim) where
  abbrev At : ℕ → ℕ → ℕ → Type 0
  At x y i = (i < length E) × (((edge_at E i).from ≡ x) × ((edge_at E i).to ≡ y))

  place_at : (x y : ℕ) → Named E x y → At x y (entry_place E x y)
  unfolding entry_place
  place_at x y n = go (lowest (λ i. eqb (edge_at E i).from x && eqb (edge_at E i).to y) (length E) 0) found
    where
      found : Lowest (At x y) (lowest (λ i. eqb (edge_at E i).from x && eqb (edge_at E i).to y) (length E) 0)
      found = lowest-iff _ (At x y) (length E) (λ i h. (λ t. (h, (and-iff so-eq so-eq).0 t), λ a. (and-iff so-eq so-eq).1 a.1)) (λ i a. a.0) (length E) 0 (omega arith) (λ i a. omega arith)

      go : (o : Option ℕ) → Lowest (At x y) o → At x y (elim o [ some i ↦ i | none ↦ length E ])
      go (some i) l = l.0
      go none l = absurd (l n.0 (n.1, n.2))

  pub number_at : (x y : ℕ) → Named E x y → At x y (entry_number E x y)
  unfolding entry_number
  number_at x y n = let p = place_at x y n in subst (λ (b : Bool). At x y (cond b (entry_place E x y) 0)) (sym (so-lt.1 p.0)) p

  pub numbers-chained : (a : ℕ) (zs : List ℕ) (b : ℕ) → Run (Named E) a zs b → So (chained E (numbers E a zs b) a b)
  unfolding numbers
  numbers-chained a [] b r = let p = number_at a b r in chained-one E (entry_number E a b) a b p.0 p.1.0 p.1.1
  numbers-chained a (z ∷ zs) b r = go zs (numbers-chained z zs b r.1)
    where
      go : (zs : List ℕ) → So (chained E (numbers E z zs b) z b) → So (chained E (entry_number E a z ∷ numbers E z zs b) a b)
      go [] t = let p = number_at a z r.0 in chained_more E (entry_number E a z) a z p.0 p.1.0 p.1.1 b (entry_number E z b) [] t
      go (w ∷ zs) t = let p = number_at a z r.0 in chained_more E (entry_number E a z) a z p.0 p.1.0 p.1.1 b (entry_number E z w) (numbers E w zs b) t

pub edges-append : (es fs : List Entry) → edges_of (es ++ fs) ≡ edges_of es ++ edges_of fs
unfolding edges_of
edges-append [] fs = refl
edges-append (e ∷ es) fs = ap (λ E. record { from = e.from; to = e.to } ∷ E) (edges-append es fs)

pub edges-long : (es : List Entry) → length (edges_of es) ≡ length es
unfolding edges_of
edges-long [] = refl
edges-long (e ∷ es) = ap suc (edges-long es)

grown : (E : List Claim) (es fs : List Entry) → (E ++ edges_of es) ++ edges_of fs ≡ E ++ edges_of (es ++ fs)
grown E es fs = append_assoc E (edges_of es) (edges_of fs) ∙ ap (λ F. E ++ F) (sym (edges-append es fs))

pub record Says (f : Frame) (K : Table) (D : Rel) (E : List Claim) (es : List Entry) (Q : List Claim → Type 0) : Type 0 where
  pub runs : Runs f K E es (E ++ edges_of es)
  pub once : Distinct (E ++ edges_of es)
  pub only : (x y : ℕ) → Named (E ++ edges_of es) x y → Named E x y ⊎ D x y
  pub told : Q (E ++ edges_of es)

module _ (f : Frame) (K : Table) (D : Rel) where
  none_said : (E : List Claim) (Q : List Claim → Type 0) → Distinct E → Q E → Says f K D E [] Q
  unfolding edges_of
  none_said E Q d q =
      let e = sym (append-nil E) in
      record {
        runs = subst (λ (B : List Claim). Runs f K E [] B) e (λ Es rest t. t);
        once = subst (λ (B : List Claim). Distinct B) e d;
        only = λ x y n. inl (subst (λ (B : List Claim). Named B x y) (append-nil E) n);
        told = subst Q e q;
      }

  one-said : (E : List Claim) (e : Entry) → Distinct E → e.rule ≢ CLOSE → e.rule ≢ SPLIT → So (fits f K E e) → (Named E e.from e.to → ⊥) → D e.from e.to
      → Says f K D E (e ∷ []) (λ B. Named B e.from e.to)
  unfolding edges_of
  one-said E e u n₀ n₈ t n d = record {
    runs = runs-edge f K E e n₀ n₈ t;
    once = further u n;
    only = λ x y a. elim (named-cases E e.from e.to x y a) [ inl b ↦ inl b | inr q ↦ inr (subst (D x) q.1 (subst (λ (x : ℕ). D x e.to) q.0 d)) ];
    told = named-last E e.from e.to;
  }

  join : (E : List Claim) (es fs : List Entry) (Q R : List Claim → Type 0) → Says f K D E es Q → Says f K D (E ++ edges_of es) fs R → Says f K D E (es ++ fs) R
  join E es fs Q R s t =
      let e = grown E es fs in
      record {
        runs = subst (λ (B : List Claim). Runs f K E (es ++ fs) B) e
            (λ Es rest u. subst (λ (l : List Entry). So (refutes f K (E ∷ Es) l)) (sym (append_assoc es fs rest)) (s.runs Es (fs ++ rest) (t.runs Es rest u)));
        once = subst (λ (B : List Claim). Distinct B) e t.once;
        only = λ x y n. elim (t.only x y (subst (λ (B : List Claim). Named B x y) (sym e) n)) [ inl m ↦ s.only x y m | inr d ↦ inr d ];
        told = subst R e t.told;
      }

  also : (E : List Claim) (es : List Entry) (Q R : List Claim → Type 0) → Says f K D E es Q → (Q (E ++ edges_of es) → R (E ++ edges_of es)) → Says f K D E es R
  also E es Q R s h = record { runs = s.runs; once = s.once; only = s.only; told = h s.told }

  module _ (n : ℕ) (in-d : (x y : ℕ) → D x y → (x < n) × (y < n)) where
    pub says-fair : (E : List Claim) (es : List Entry) (Q : List Claim → Type 0) → Fair n E → Says f K D E es Q → Fair n (E ++ edges_of es)
    says-fair E es Q u s = record { once = s.once; below = λ x y m. elim (s.only x y m) [ inl a ↦ u.below x y a | inr d ↦ in-d x y d ] }

    -- tell tells what D has, in every fair branch with A
    pub along-says : (tell : List Claim → ℕ → ℕ → List Entry) (A : List Claim → Type 0) → ((E F : List Claim) → A E → A (E ++ F))
        → ((E : List Claim) → A E → Fair n E → (x y : ℕ) → D x y → Says f K D E (tell E x y) (λ B. Named B x y))
        → (zs : List ℕ) (E : List Claim) → A E → Fair n E → (a b : ℕ) → Run D a zs b → Says f K D E (along tell E a zs b) (λ B. Run (Named B) a zs b)
    unfolding along
    along-says tell A grow says [] E s u a b r = says E s u a b r
    along-says tell A grow says (z ∷ zs) E s u a b r =
        let t = says E s u a z r.0 in
        let E₁ = E ++ edges_of (tell E a z) in
        let fs = along tell E₁ z zs b in
        let v = along-says tell A grow says zs E₁ (grow E (edges_of (tell E a z)) s) (says-fair E (tell E a z) (λ B. Named B a z) u t) z b r.1 in
        join E (tell E a z) fs (λ B. Named B a z) (λ B. Named B a z × Run (Named B) z zs b) t
        (also E₁ fs (λ B. Run (Named B) z zs b) (λ B. Named B a z × Run (Named B) z zs b) v (λ q. (named-grow E₁ (edges_of fs) a z t.told, q)))

wider : (f : Frame) (K : Table) (D D' : Rel) → D ⊆ D' → (E : List Claim) (es : List Entry) (Q : List Claim → Type 0) → Says f K D E es Q → Says f K D' E es Q
wider f K D D' h E es Q s = record { runs = s.runs; once = s.once; only = λ x y n. elim (s.only x y n) [ inl m ↦ inl m | inr d ↦ inr (h x y d) ]; told = s.told }

-- rules 1 to 5 look at no chains; an edge by rule 6 or 7 rests on one chain
module _ (f : Frame) (K P : Table) (C : Rel) (x y : ℕ) where
  data Kind : ℕ → Type 1 where
    plain : {r : ℕ} → r ≢ CLOSE → r ≢ SPLIT → ((D : Rel) (Q : Table) → Gives f K Q D x y r) → Kind r
    given : So (P x y) → Kind 8
    load : (L : ℕ) → Source f y L → Writer f x L → x ≢ y → C x L → Kind 6
    source : (S : ℕ) → Source f S x → Writer f y x → y ≢ S → C S y → Kind 7

  kind : {r : ℕ} → Gives f K P C x y r → Kind r
  kind (rule1 k) = plain {r = 1} (omega arith) (omega arith) (λ D Q. rule1 k)
  kind (rule2 s n) = plain {r = 2} (omega arith) (omega arith) (λ D Q. rule2 s n)
  kind (rule3 L s w d o) = plain {r = 3} (omega arith) (omega arith) (λ D Q. rule3 L s w d o)
  kind (rule4 s) = plain {r = 4} (omega arith) (omega arith) (λ D Q. rule4 s)
  kind (rule5 s o) = plain {r = 5} (omega arith) (omega arith) (λ D Q. rule5 s o)
  kind (rule6 L s w d c) = load L s w d c
  kind (rule7 S s w d c) = source S s w d c
  kind (rule8 k) = given k

  -- what is not supposed is given all the same
  unsupposed : (So (P x y) → ⊥) → (r : ℕ) → Kind r → Gives f K nothing C x y r
  unsupposed n r (plain n₀ n₈ a) = a C nothing
  unsupposed n r (given k) = absurd (n k)
  unsupposed n r (load L s w d c) = rule6 L s w d c
  unsupposed n r (source S s w d c) = rule7 S s w d c

-- the lowest rule gives the edge, where one does
module _ (f : Frame) (g : Good f) (K C : Table) (D : Rel) (q : (x y : ℕ) → So (C x y) ↔ D x y) (x y : ℕ) where
  rule-by : (r : ℕ) → Gives f K nothing D x y r → Gives f K nothing D x y (rule_by f K C x y)
  unfolding rule_by rule?
  rule-by r a = go (lowest (gives? f K nothing C x y) 9 0)
      (lowest-iff _ (Gives f K nothing D x y) 9 (λ r _. gives-iff f g K nothing C D q x y r) (λ r. gives-small) 9 0 (omega arith) (λ r _. omega arith))
    where
      go : (o : Option ℕ) → Lowest (Gives f K nothing D x y) o → Gives f K nothing D x y (elim o [ some r ↦ r | none ↦ 0 ])
      go (some r) l = l.0
      go none l = absurd (l r a)

  -- and otherwise it is 0
  rule-given : rule_by f K C x y ≢ 0 → Gives f K nothing D x y (rule_by f K C x y)
  unfolding rule_by rule?
  rule-given n = go (lowest (gives? f K nothing C x y) 9 0)
      (lowest-iff _ (Gives f K nothing D x y) 9 (λ r _. gives-iff f g K nothing C D q x y r) (λ r. gives-small) 9 0 (omega arith) (λ r _. omega arith)) n
    where
      go : (o : Option ℕ) → Lowest (Gives f K nothing D x y) o → ◌≢◌ {A = ℕ} (elim o [ some r ↦ r | none ↦ 0 ]) 0 → Gives f K nothing D x y (elim o [ some r ↦ r | none ↦ 0 ])
      go (some r) l n = l.0
      go none l n = absurd (n refl)

module _ (f : Frame) (g : Good f) (small : f.records ≤ RECORDS) (K P : Table) (inK : InRecords f K) (in_p : InRecords f P) where
  abbrev pub Supposes : List Claim → Type 0
  Supposes E = (x y : ℕ) → So (P x y) → Named E x y

  pub supposes-grow : (E F : List Claim) → Supposes E → Supposes (E ++ F)
  supposes-grow E F s x y k = named-grow E F x y (s x y k)

  abbrev pub Circleless : ℕ → Type 0
  Circleless k = (j : ℕ) → j < k → (x : ℕ) → Chains f K P (suc j) x x → ⊥

  within : (k x y : ℕ) → Forced f K P k x y → (x < f.records) × (y < f.records)
  within k x y e = step-within f g K P inK in_p (Chains f K P k) x y e

  -- the reader has room for the entry, which may rest on what it does
  fits_by : (E : List Claim) (x y r : ℕ) (is : List ℕ) → Fair f.records E → (Named E x y → ⊥) → (x < f.records) × (y < f.records) → (CHAINED ≤ r) ⊎ (length is ≡ 0)
      → Gives f K nothing (On (chained E is)) x y r → So (fits f K E (record { rule = r; from = x; to = y; rests = is }))
  unfolding fits
  fits_by E x y r is u n b h a =
      (and-iff {a = branch_room E} same-iff (and-iff {a = may_rest r (length is)} (or-iff so-le so-eq) (gives-iff f g K nothing (chained E is) (On (chained E is)) (λ x y. same-iff) x y r))).1
      (roomy-new f.records E u x y n b small, (h, a))

  none-iff : (x y : ℕ) → So (nothing x y) ↔ On nothing x y
  none-iff x y = same-iff

  -- an edge by a rule that looks at no chains
  bare-says : (k : ℕ) (E : List Claim) → Fair f.records E → (x y : ℕ) → Forced f K P k x y → (Named E x y → ⊥) → Gives f K nothing (On nothing) x y (rule_by f K nothing x y)
      → Says f K (Forced f K P k) E (bare_entry f K x y ∷ []) (λ B. Named B x y)
  bare-says k E u x y e n a = by (kind f K nothing (On nothing) x y a)
    where
      by : Kind f K nothing (On nothing) x y (rule_by f K nothing x y) → Says f K (Forced f K P k) E (bare_entry f K x y ∷ []) (λ B. Named B x y)
      by z = go (rule_by f K nothing x y) z
        where
          go : (r : ℕ) → Kind f K nothing (On nothing) x y r → Says f K (Forced f K P k) E (record { rule = r; from = x; to = y; rests = [] } ∷ []) (λ B. Named B x y)
          go r (plain n₀ n₈ a) =
              one-said f K (Forced f K P k) E (record { rule = r; from = x; to = y; rests = [] }) u.once n₀ n₈ (fits_by E x y r [] u n (within k x y e) (inr refl) (a (On (chained E [])) nothing)) n e
          go r (given t) = absurd (false≢true t)
          go r (load L s w d c) = absurd (false≢true c)
          go r (source S s w d c) = absurd (false≢true c)

  -- the ends of the chain of round k that a rule asks for
  module _ (k x y : ℕ) where
    start-six : rule_by f K (chains? f K P (suc k)) x y ≡ 6 → rests_from f K P k x y ≡ x
    unfolding rests_from
    start-six e = ap (λ b. cond b x (source_of f x)) (so-eq.1 e)

    end-seven : rule_by f K (chains? f K P (suc k)) x y ≡ 7 → rests_to f K P k x y ≡ y
    unfolding rests_to
    end-seven e = ap (λ b. cond b (rest_load f (chains? f K P (suc k)) x y) y) (off (λ t. let q : rule_by f K (chains? f K P (suc k)) x y ≡ 6 = so-eq.0 t in omega arith))

    start-seven : rule_by f K (chains? f K P (suc k)) x y ≡ 7 → (S : ℕ) → Source f S x → rests_from f K P k x y ≡ S
    unfolding rests_from
    start-seven e S s =
        ap (λ b. cond b x (source_of f x)) (off (λ t. let q : rule_by f K (chains? f K P (suc k)) x y ≡ 6 = so-eq.0 t in omega arith))
        ∙ source-of-has f x g S (omega (arith, g.below S (g.writes S s.writer.writes))) s

    abbrev Load : ℕ → Type 0
    Load L = (Chains f K P (suc k) x L × (source_of f L ≡ y)) × (x ≢ L)

    load_found : (L : ℕ) → Load L → Load (rest_load f (chains? f K P (suc k)) x y)
    unfolding rest_load
    load_found L l = go (lowest (λ L. chains? f K P (suc k) x L && eqb (source_of f L) y && not (eqb x L)) RECORDS 0) found
      where
        below : (L : ℕ) → Load L → L < RECORDS
        below L l = omega (arith, (chains-within f g K P inK in_p (suc k) x L l.0.0).1)

        found : Lowest Load (lowest (λ L. chains? f K P (suc k) x L && eqb (source_of f L) y && not (eqb x L)) RECORDS 0)
        found = lowest-iff _ Load RECORDS (λ L h. and-iff (and-iff (chains-iff f g K P inK in_p (suc k) x L) so-eq) (not_iff so-eq)) below RECORDS 0 (omega arith) (λ L l. omega arith)

        go : (o : Option ℕ) → Lowest Load o → Load (elim o [ some L ↦ L | none ↦ RECORDS ])
        go (some L) h = h.0
        go none h = absurd (h L l)

    -- where rule 6 gives the edge by some load, it gives it by the lowest
    end-six : rule_by f K (chains? f K P (suc k)) x y ≡ 6 → (L : ℕ) → Source f y L → Writer f x L → Chains f K P (suc k) x L
        → (Source f y (rests_to f K P k x y) × Writer f x (rests_to f K P k x y)) × Chains f K P (suc k) x (rests_to f K P k x y)
    unfolding rests_to
    end-six e L s w c =
        subst (λ (b : Bool). (Source f y (cond b M y) × Writer f x (cond b M y)) × Chains f K P (suc k) x (cond b M y)) (sym (so-eq.1 e)) ((reads, writes), z.0.0)
      where
        M : ℕ
        M = rest_load f (chains? f K P (suc k)) x y

        z : Load (rest_load f (chains? f K P (suc k)) x y)
        z = load_found L ((c, source-of-has f L g y (omega (arith, g.below y (g.writes y s.writer.writes))) s), w.other)

        reads : Source f y (rest_load f (chains? f K P (suc k)) x y)
        reads =
            let l : y < RECORDS = omega (arith, g.below y (g.writes y s.writer.writes)) in
            subst (λ (S : ℕ). Source f S (rest_load f (chains? f K P (suc k)) x y)) z.0.1 (source-of-is f (rest_load f (chains? f K P (suc k)) x y) (omega (arith, z.0.1)))

        writes : Writer f x (rest_load f (chains? f K P (suc k)) x y)
        writes = record { writes = w.writes; same = w.same ∙ sym s.writer.same ∙ reads.writer.same; other = z.1 }

  -- an edge that rests on a chain of round k, and is no edge of that round
  rest-says : (k : ℕ) (E : List Claim) → Supposes E → Fair f.records E → (x y r : ℕ) → Forced f K P (suc k) x y
      → ((E : List Claim) → Supposes E → Fair f.records E → (x y : ℕ) → Forced f K P k x y → Says f K (Forced f K P k) E (tell f K P k E x y) (λ B. Named B x y))
      → (Named E x y → ⊥) → (Forced f K P k x y → ⊥) → Run (Forced f K P k) (rests_from f K P k x y) (way_at f K P k x y) (rests_to f K P k x y) → CHAINED ≤ r → r < SPLIT
      → ((B : List Claim) (is : List ℕ) → So (chained B is (rests_from f K P k x y) (rests_to f K P k x y)) → Gives f K nothing (On (chained B is)) x y r)
      → Says f K (Forced f K P (suc k)) E
      (along (tell f K P k) E (rests_from f K P k x y) (way_at f K P k x y) (rests_to f K P k x y)
      ++ record { rule = r; from = x; to = y; rests = numbers (E ++ edges_of (along (tell f K P k) E (rests_from f K P k x y) (way_at f K P k x y) (rests_to f K P k x y))) (rests_from f K P k x y) (way_at f K P k x y) (rests_to f K P k x y) } ∷ [])
      (λ B. Named B x y)
  rest-says k E s u x y r e tells n₁ n₂ c low high by =
      let a = rests_from f K P k x y in
      let b = rests_to f K P k x y in
      let zs = way_at f K P k x y in
      let es = along (tell f K P k) E a zs b in
      let E₁ = E ++ edges_of es in
      let Q : List Claim → Type 0 = λ B. Run (Named B) a zs b in
      let v = along-says f K (Forced f K P k) f.records (within k) (tell f K P k) Supposes supposes-grow tells zs E s u a b c in
      let is = numbers E₁ a zs b in
      let new : Named E₁ x y → ⊥ = λ m. elim (v.only x y m) [ inl z ↦ n₁ z | inr z ↦ n₂ z ] in
      let fair = says-fair f K (Forced f K P k) f.records (within k) E es Q u v in
      let t = fits_by E₁ x y r is fair new (within (suc k) x y e) (inl low) (by E₁ is (numbers-chained E₁ a zs b v.told)) in
      join f K (Forced f K P (suc k)) E es (record { rule = r; from = x; to = y; rests = is } ∷ []) Q (λ B. Named B x y)
      (wider f K (Forced f K P k) (Forced f K P (suc k)) (edge-grow f K P k) E es Q v)
      (one-said f K (Forced f K P (suc k)) E₁ (record { rule = r; from = x; to = y; rests = is }) fair.once (λ q. omega arith) (λ q. omega arith) t new e)

  -- the way of a chain of a round that has no circle
  way-at-runs : (k x y : ℕ) → ((x : ℕ) → Chains f K P (suc k) x x → ⊥) → Chains f K P (suc k) (rests_from f K P k x y) (rests_to f K P k x y)
      → Run (Forced f K P k) (rests_from f K P k x y) (way_at f K P k x y) (rests_to f K P k x y)
  unfolding way_at
  way-at-runs k x y clear c =
      way-runs (Forced f K P k) (λ x y e. let b = within k x y e in (omega (arith, b.0), omega (arith, b.1))) (edge? f K P k) (chains? f K P (suc k))
      (edge-iff f g K P inK in_p k) (chains-iff f g K P inK in_p (suc k)) clear (rests_from f K P k x y) (rests_to f K P k x y) c

  pub tell-says : (k : ℕ) → Circleless k → (E : List Claim) → Supposes E → Fair f.records E → (x y : ℕ) → Forced f K P k x y
      → Says f K (Forced f K P k) E (tell f K P k E x y) (λ B. Named B x y)
  unfolding tell resting
  tell-says zero clear E s u x y e = go (inside E x y) refl
    where
      go : (b : Bool) → inside E x y ≡ b → Says f K (Forced f K P 0) E (elim b [ true ↦ [] | false ↦ bare_entry f K x y ∷ [] ]) (λ B. Named B x y)
      go true t = none_said f K (Forced f K P 0) E (λ B. Named B x y) u.once ((inside-iff E x y).0 t)
      go false t =
          let n : Named E x y → ⊥ = λ n. false≢true (sym t ∙ (inside-iff E x y).1 n) in
          bare-says 0 E u x y e n (rule-by f g K nothing (On nothing) none-iff x y e.0 (by n e.0 (kind f K P (Chains f K P 0) x y e.1)))
        where
          by : (Named E x y → ⊥) → (r : ℕ) → Kind f K P (Chains f K P 0) x y r → Gives f K nothing (On nothing) x y r
          by n r (plain n₀ n₈ a) = a (On nothing) nothing
          by n r (given k) = absurd (n (s x y k))
          by n r (load L u w d c) = absurd c
          by n r (source S u w d c) = absurd c
  tell-says (suc k) clear E s u x y e = go (inside E x y) (eqb (rule_by f K nothing x y) 0) (edge? f K P k x y) refl refl refl (tell-says k (λ j l. clear j (omega arith)))
    where
      Tells : Type 0
      Tells = (E : List Claim) → Supposes E → Fair f.records E → (x y : ℕ) → Forced f K P k x y → Says f K (Forced f K P k) E (tell f K P k E x y) (λ B. Named B x y)

      C : Table
      C = chains? f K P (suc k)

      by : Tells → (Named E x y → ⊥) → (Forced f K P k x y → ⊥) → (r : ℕ) → rule_by f K (chains? f K P (suc k)) x y ≡ r → Kind f K nothing (Chains f K P (suc k)) x y r
          → Says f K (Forced f K P (suc k)) E (resting f K P (tell f K P k) k E x y) (λ B. Named B x y)
      by tells n₁ n₂ r q (plain n₀ n₈ a) = absurd (n₂ (r, a (Chains f K P k) P))
      by tells n₁ n₂ r q (given p) = absurd (false≢true p)
      by tells n₁ n₂ r q (load L v w d c) =
          let z = end-six k x y q L v w c in
          let i = start-six k x y q in
          rest-says k E s u x y (rule_by f K (chains? f K P (suc k)) x y) e tells n₁ n₂
          (way-at-runs k x y (clear k (omega arith)) (subst (λ (a : ℕ). Chains f K P (suc k) a (rests_to f K P k x y)) (sym i) z.1)) (omega arith) (omega arith)
          (λ B is t. subst (Gives f K nothing (On (chained B is)) x y) (sym q) (rule6 (rests_to f K P k x y) z.0.0 z.0.1 d (subst (λ (a : ℕ). So (chained B is a (rests_to f K P k x y))) i t)))
      by tells n₁ n₂ r q (source S v w d c) =
          let i = start-seven k x y q S v in
          let j = end-seven k x y q in
          rest-says k E s u x y (rule_by f K (chains? f K P (suc k)) x y) e tells n₁ n₂
          (way-at-runs k x y (clear k (omega arith)) (subst (λ (a : ℕ). Chains f K P (suc k) a (rests_to f K P k x y)) (sym i) (subst (Chains f K P (suc k) S) (sym j) c))) (omega arith) (omega arith)
          (λ B is t. subst (Gives f K nothing (On (chained B is)) x y) (sym q) (rule7 S v w d (subst (λ (a : ℕ). So (chained B is a y)) i (subst (λ (b : ℕ). So (chained B is (rests_from f K P k x y) b)) j t))))

      go : (b p c : Bool) → inside E x y ≡ b → eqb (rule_by f K nothing x y) 0 ≡ p → edge? f K P k x y ≡ c → Tells
          → Says f K (Forced f K P (suc k)) E (elim b [
            | true ↦ []
            | false ↦ elim p [ true ↦ elim c [ true ↦ tell f K P k E x y | false ↦ resting f K P (tell f K P k) k E x y ] | false ↦ bare_entry f K x y ∷ [] ]
          ]) (λ B. Named B x y)
      go true p c t w v tells = none_said f K (Forced f K P (suc k)) E (λ B. Named B x y) u.once ((inside-iff E x y).0 t)
      go false false c t w v tells =
          bare-says (suc k) E u x y e (λ n. false≢true (sym t ∙ (inside-iff E x y).1 n)) (rule-given f g K nothing (On nothing) none-iff x y (λ z. false≢true (sym w ∙ so-eq.1 z)))
      go false true true t w v tells =
          wider f K (Forced f K P k) (Forced f K P (suc k)) (edge-grow f K P k) E (tell f K P k E x y) (λ B. Named B x y) (tells E s u x y ((edge-iff f g K P inK in_p k x y).0 v))
      go false true false t w v tells =
          let n : Named E x y → ⊥ = λ n. false≢true (sym t ∙ (inside-iff E x y).1 n) in
          by tells n (λ h. false≢true (sym v ∙ (edge-iff f g K P inK in_p k x y).1 h)) (rule_by f K (chains? f K P (suc k)) x y) refl
          (kind f K nothing (Chains f K P (suc k)) x y (rule-by f g K (chains? f K P (suc k)) (Chains f K P (suc k)) (chains-iff f g K P inK in_p (suc k)) x y e.0
          (unsupposed f K P (Chains f K P (suc k)) x y (λ p. n (s x y p)) e.0 (kind f K P (Chains f K P (suc k)) x y e.1))))
