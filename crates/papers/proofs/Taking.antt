-- What taking an entry leaves to check.
--
--   chained-link, gives-link   == the chain of an entry is its link, and a rule looks at no pair past the records
--   circle-wrong, circle-closed, circle-goes, full-wrong, split-wrong, split_goes, edge-wrong, edge_goes == Taken, one for each way that the reader goes
use mathlib.Core.Path.{◌≡◌, refl, sym, ap, ap₂, ◌∙◌, fun_ext}
use mathlib.Core.Logic.{◌≢◌, ◌↔◌, inl, inr}
use mathlib.Core.Bool.{Bool, true, false, not, So, ◌&&◌, false≢true}
use mathlib.Core.List.{List, [], ◌∷◌}
use mathlib.Core.Option.{Option, none, some}
use Prim.Native.Nat.{ℕ, zero, suc, ◌+◌, ◌<◌, ◌≤◌}
use native.Mathlib.Numerals.{add-one}
use native.Mathlib.Omega.{arith}
use borrow.Author.Tests.{eq-eqb, ne_eqb}
use lib.Dec.{eqb, ltb}
use lib.ListN.{length, get_or, set}
use lib.Seq.{get_or-set_same}
use Rattle.laws.specs.Relation.{Table}
use Rattle.laws.specs.Tests.{any}
use Rattle.laws.proofs.Tests.{and-iff, so-eq, so-lt, off, test-one, eq?}
use Rattle.trace.specs.Bounds.{RECORDS}
use Rattle.rules.specs.Frame.{Frame}
use Rattle.trace.specs.Meaning.{frame_of}
use Rattle.trace.specs.declared.Trace.{Trace}
use Rattle.rules.specs.Rules.{nothing}
use Rattle.rules.specs.RuleTests.{writer?, source?, first?, rules, gives?}
use Rattle.papers.specs.Paper.{Claim, Entry, edge_at, named, leads, arrives, chained, BRANCH, branch_room, may_rest, splits, fits, refutes}
use Rattle.papers.specs.inner.ReaderBranch.{branch_of, between, link_of, link_joins, linked, others_of, stack_of, goals_of, branch_after, went, Taken}
use Rattle.std.specs.Prelude.{Some, None}
use Rattle.std.specs.Prelude as std
use Rattle.papers.specs.declared.reading.Turn.TheVariants.{Goes, Closed, Wrong}
use Rattle.papers.proofs.Branches.{branch-long, branch-more, same_branch, same-others, set_same}

-- the chain of an entry is its link
ends : (s y : ℕ) (o : Option ℕ) → arrives o y ≡ linked (between s o) s y
unfolding linked
ends s y (some z) = ap (λ b. b && eqb z y) (sym (eq-eqb s s refl))
ends s y none = refl

apart : (s x y : ℕ) (o : Option ℕ) → s ≢ x → false ≡ linked (between s o) x y
unfolding linked
apart s x y (some z) d = ap (λ b. b && eqb z y) (sym (ne_eqb s x d))
apart s x y none d = refl

leads-none : (E : List Claim) (i : ℕ) (is : List ℕ) (x : ℕ) → (edge_at E i).from ≢ x → leads E (i ∷ is) x ≡ none
unfolding leads
leads-none E i is x d =
    let q : (ltb i (length E) && eqb (edge_at E i).from x) ≡ false
    = off (λ t. let p : (i < length E) × ((edge_at E i).from ≡ x) = (and-iff so-lt so-eq).0 t in d p.1) in
    ap {B = Option ℕ} (λ b. elim b [ true ↦ leads E is (edge_at E i).to | false ↦ none ]) q

pub chained-link : (E : List Claim) (is : List ℕ) (x y : ℕ) → chained E is x y ≡ linked (link_of E is) x y
unfolding chained link_of linked
chained-link E [] x y = refl
chained-link E (i ∷ is) x y = elim (eq? (edge_at E i).from x) [
  | inl e ↦ ap (λ z. arrives (leads E (i ∷ is) z) y) (sym e) ∙ ends (edge_at E i).from y (leads E (i ∷ is) (edge_at E i).from)
      ∙ ap (λ z. linked (between (edge_at E i).from (leads E (i ∷ is) (edge_at E i).from)) z y) e
  | inr d ↦ ap (λ o. arrives o y) (leads-none E i is x d) ∙ apart (edge_at E i).from x y (leads E (i ∷ is) (edge_at E i).from) d
]

-- a rule looks at no pair past the records
left : (a b : Bool) → So (a && b) → So a
left true b t = refl
left false b t = absurd (false≢true t)

right : (a b : Bool) → So (a && b) → So b
right true b t = t
right false b t = absurd (false≢true t)

guard : (a p q : Bool) → (So a → p ≡ q) → (a && p) ≡ (a && q)
guard true p q h = h refl
guard false p q h = refl

joins-in : (l : std.Option (ℕ × ℕ)) (x y : ℕ) → x < RECORDS → y < RECORDS → link_joins l x y ≡ linked l x y
unfolding link_joins linked
joins-in (Some (a, b)) x y hx hy =
    test-one {A = (a ≡ x) × (b ≡ y)}
    (let q : So ((ltb a RECORDS && ltb b RECORDS) && (eqb x a && eqb y b)) ↔ (((a < RECORDS) × (b < RECORDS)) × ((x ≡ a) × (y ≡ b))) = and-iff (and-iff so-lt so-lt) (and-iff so-eq so-eq) in
    (λ t. let p = q.0 t in (sym p.1.0, sym p.1.1), λ e. q.1 ((omega (arith, hx, e.0), omega (arith, hy, e.1)), (sym e.0, sym e.1))))
    (and-iff so-eq so-eq)
joins-in None x y hx hy = refl

module _ (t : Trace) (h : t.len ≤ RECORDS) where
  writer_in : (S L : ℕ) → So (writer? (frame_of t) S L) → S < RECORDS
  unfolding writer? frame_of
  writer_in S L w = let q : S < t.len = so-lt.0 (left _ _ (left _ _ (left _ _ w))) in omega (arith, q, h)

  reads_in : (L : ℕ) → So ((frame_of t).reads L) → L < RECORDS
  unfolding frame_of
  reads_in L w = let q : L < t.len = so-lt.0 (left _ _ w) in omega (arith, q, h)

  source_in : (S L : ℕ) → So (source? (frame_of t) S L) → (S < RECORDS) × (L < RECORDS)
  unfolding source?
  source_in S L w =
      let f = frame_of t in
      let a = left (writer? f S L && f.reads L && eqb (f.read L) (f.written S)) (not (eqb (f.read L) (f.first (f.address L)))) w in
      let b = left (writer? f S L && f.reads L) (eqb (f.read L) (f.written S)) a in
      (writer_in S L (left (writer? f S L) (f.reads L) b), reads_in L (right (writer? f S L) (f.reads L) b))

  pub gives-link : (K : Table) (l : std.Option (ℕ × ℕ)) (x y r : ℕ) → gives? (frame_of t) K nothing (link_joins l) x y r ≡ gives? (frame_of t) K nothing (linked l) x y r
  unfolding gives? rules
  gives-link K l x y r =
      let f = frame_of t in
      let six : (L : ℕ) → (source? f y L && writer? f x L && not (eqb x y) && link_joins l x L) ≡ (source? f y L && writer? f x L && not (eqb x y) && linked l x L)
      = λ L. guard (source? f y L && writer? f x L && not (eqb x y)) (link_joins l x L) (linked l x L)
      (λ g. let h = left (source? f y L && writer? f x L) (not (eqb x y)) g in
      joins-in l x L (writer_in x L (right (source? f y L) (writer? f x L) h)) (source_in y L (left (source? f y L) (writer? f x L) h)).1) in
      let seven : (S : ℕ) → (source? f S x && writer? f y x && not (eqb y S) && link_joins l S y) ≡ (source? f S x && writer? f y x && not (eqb y S) && linked l S y)
      = λ S. guard (source? f S x && writer? f y x && not (eqb y S)) (link_joins l S y) (linked l S y)
      (λ g. let h = left (source? f S x && writer? f y x) (not (eqb y S)) g in
      joins-in l S y (source_in S x (left (source? f S x) (writer? f y x) h)).0 (writer_in y x (right (source? f S x) (writer? f y x) h))) in
      ap₂ (λ (p q : ℕ → Bool). get_or (
      false
      ∷ K x y
      ∷ (source? f x y && not (f.earlier x y))
      ∷ any f.records (λ L. source? f y L && writer? f x L && not (eqb x y) && f.earlier x L)
      ∷ first? f y x
      ∷ (first? f x y && f.earlier x y)
      ∷ any f.records p
      ∷ any f.records q
      ∷ nothing x y
      ∷ []
      ) r false) (fun_ext six) (fun_ext seven)

-- the branch with one entry more
module _ (from to other : List ℕ) (n x y : ℕ) (lf : n < length from) (lt : n < length to) (lo : n < length other) where
  pub name-branch : branch_of (set from n x) (set to n y) (n + 1) ≡ named (branch_of from to n) x y
  name-branch =
      ap (branch_of (set from n x) (set to n y)) (add-one n)
      ∙ branch-more (set from n x) (set to n y) n
      ∙ ap (λ E. named E (get_or (set from n x) n 0) (get_or (set to n y) n 0)) (same_branch (set from n x) (set to n y) from to n (set_same from n x) (set_same to n y))
      ∙ ap₂ (named (branch_of from to n)) (get_or-set_same from n x 0 lf) (get_or-set_same to n y 0 lt)

  others-at : (v : ℕ) → others_of (set from n x) (set to n y) (set other n v) (n + 1)
      ≡ elim (eqb v 1) [ true ↦ named (branch_of from to n) y x ∷ others_of from to other n | false ↦ others_of from to other n ]
  unfolding others_of
  others-at v =
      let from' = set from n x in
      let to' = set to n y in
      let other' = set other n v in
      let rest = same-others from' to' other' from to other n (set_same from n x) (set_same to n y) (set_same other n v) in
      let turned : named (branch_of from' to' n) (get_or to' n 0) (get_or from' n 0) ≡ named (branch_of from to n) y x
      = ap (λ E. named E (get_or to' n 0) (get_or from' n 0)) (same_branch from' to' from to n (set_same from n x) (set_same to n y))
      ∙ ap₂ (named (branch_of from to n)) (get_or-set_same to n y 0 lt) (get_or-set_same from n x 0 lf) in
      ap (others_of from' to' other') (add-one n)
      ∙ ap₂ (λ (b : Bool) (p : List (List Claim) × List (List Claim)). elim b [ true ↦ p.0 | false ↦ p.1 ]) (ap (λ v. eqb v 1) (get_or-set_same other n v 0 lo))
      (ap₂ (λ a b. (a, b)) (ap₂ (λ e es. e ∷ es) turned rest) rest)

  pub goals-split : goals_of (set from n x) (set to n y) (set other n 1) (n + 1) ≡ named (branch_of from to n) x y ∷ named (branch_of from to n) y x ∷ others_of from to other n
  goals-split = ap₂ (λ e es. e ∷ es) name-branch (others-at 1)

  pub goals-edge : goals_of (set from n x) (set to n y) (set other n 0) (n + 1) ≡ named (branch_of from to n) x y ∷ others_of from to other n
  goals-edge = ap₂ (λ e es. e ∷ es) name-branch (others-at 0)

-- the three kinds of entries
abbrev kind : Bool → Bool → Bool → Bool → Bool → Bool
kind b c p q r = elim b [ true ↦ p | false ↦ elim c [ true ↦ q | false ↦ r ] ]

module _ (f : Frame) (K : Table) (E : List Claim) (Es : List (List Claim)) (e : Entry) (es : List Entry) where
  abbrev P : Bool
  P = eqb e.from e.to && chained E e.rests e.from e.to && refutes f K Es es

  abbrev Q : Bool
  Q = splits f E e && refutes f K (named E e.from e.to ∷ named E e.to e.from ∷ Es) es

  abbrev R : Bool
  R = fits f K E e && refutes f K (named E e.from e.to ∷ Es) es

  refutes-kind : (b c : Bool) → eqb e.rule 0 ≡ b → eqb e.rule 8 ≡ c → refutes f K (E ∷ Es) (e ∷ es) ≡ kind b c P Q R
  unfolding refutes
  refutes-kind b c p q = ap₂ (λ b c. kind b c P Q R) p q

  refutes-circle : e.rule ≡ 0 → refutes f K (E ∷ Es) (e ∷ es) ≡ ((eqb e.from e.to && chained E e.rests e.from e.to) && refutes f K Es es)
  refutes-circle q = refutes-kind true (eqb e.rule 8) (eq-eqb e.rule 0 q) refl

  refutes-split : e.rule ≡ 8 → refutes f K (E ∷ Es) (e ∷ es) ≡ (splits f E e && refutes f K (named E e.from e.to ∷ named E e.to e.from ∷ Es) es)
  refutes-split q = refutes-kind false true (ne_eqb e.rule 0 (λ z. omega (arith, q, z))) (eq-eqb e.rule 8 q)

  refutes-edge : e.rule ≢ 0 → e.rule ≢ 8 → refutes f K (E ∷ Es) (e ∷ es) ≡ (fits f K E e && refutes f K (named E e.from e.to ∷ Es) es)
  refutes-edge p q = refutes-kind false false (ne_eqb e.rule 0 p) (ne_eqb e.rule 8 q)

module _ (f : Frame) (K : Table) (from to other : List ℕ) (n : ℕ) (e : Entry) where
  abbrev E : List Claim
  E = branch_of from to n

  abbrev Es : List (List Claim)
  Es = others_of from to other n

  -- what `closes` says
  circle-by : (b : Bool) → b ≡ (eqb e.from e.to && linked (link_of E e.rests) e.from e.to) → (eqb e.from e.to && chained E e.rests e.from e.to) ≡ b
  circle-by b q = ap (λ t. eqb e.from e.to && t) (chained-link E e.rests e.from e.to) ∙ sym q

  module _ (z : e.rule ≡ 0) (b : Bool) (q : b ≡ (eqb e.from e.to && linked (link_of E e.rests) e.from e.to)) where
    pub circle-wrong : b ≡ false → (from' to' other' : List ℕ) → Taken f K from to other n e Wrong from' to' other'
    unfolding branch_after went
    circle-wrong h from' to' other' = record {
      rest = λ es. refutes-circle f K E Es e es z ∙ ap (λ t. t && refutes f K Es es) (circle-by b q ∙ h);
      short = omega arith;
    }

    pub circle-closed : b ≡ true → (from' to' other' : List ℕ) (r : ℕ) → stack_of from' to' other' r ≡ Es → r ≡ 0 → Taken f K from to other n e Closed from' to' other'
    unfolding branch_after went stack_of
    circle-closed h from' to' other' r s k = record {
      rest = λ es. refutes-circle f K E Es e es z ∙ ap (λ t. t && refutes f K Es es) (circle-by b q ∙ h) ∙ ap (λ Gs. refutes f K Gs es) (sym s ∙ ap (stack_of from' to' other') k);
      short = omega arith;
    }

    pub circle-goes : b ≡ true → (from' to' other' : List ℕ) (r : ℕ) → stack_of from' to' other' r ≡ Es → r ≢ 0 → r ≤ BRANCH → Taken f K from to other n e (Goes r) from' to' other'
    unfolding branch_after went stack_of
    circle-goes h from' to' other' zero s k l = absurd (k refl)
    circle-goes h from' to' other' (suc r) s k l = record {
      rest = λ es. refutes-circle f K E Es e es z ∙ ap (λ t. t && refutes f K Es es) (circle-by b q ∙ h) ∙ ap (λ Gs. refutes f K Gs es) (sym s);
      short = omega (arith, l);
    }

  -- the branch has room, or it has not
  roomy-at : n < BRANCH → branch_room E ≡ true
  roomy-at h = so-lt.1 (let q : length E < BRANCH = omega (arith, h, branch-long from to n) in q)

  full_at : BRANCH ≤ n → branch_room E ≡ false
  full_at h = off (λ t. let q : length E < BRANCH = so-lt.0 t in omega (arith, h, q, branch-long from to n))

  -- no entry more but a circle
  pub full-wrong : e.rule ≢ 0 → BRANCH ≤ n → (from' to' other' : List ℕ) → Taken f K from to other n e Wrong from' to' other'
  unfolding branch_after went splits fits
  full-wrong z h from' to' other' = record {
    rest = λ es. refutes-kind f K E Es e es false (eqb e.rule 8) (ne_eqb e.rule 0 z) refl ∙ go es (eqb e.rule 8) (full_at h);
    short = omega arith;
  }
    where
      go : (es : List Entry) (c : Bool) → branch_room E ≡ false → kind false c (P f K E Es e es) (Q f K E Es e es) (R f K E Es e es) ≡ false
      go es true o = ap (λ b. (b && (f.operation e.from && f.operation e.to && not (eqb e.from e.to) && eqb (length e.rests) 0)) && refutes f K (named E e.from e.to ∷ named E e.to e.from ∷ Es) es) o
      go es false o = ap (λ b. (b && (may_rest e.rule (length e.rests) && gives? f K nothing (chained E e.rests) e.from e.to e.rule)) && refutes f K (named E e.from e.to ∷ Es) es) o

  module _ (z : e.rule ≡ 8) (m : n < BRANCH) (b : Bool) (q : b ≡ (f.operation e.from && f.operation e.to && not (eqb e.from e.to) && eqb (length e.rests) 0)) where
    split_by : splits f E e ≡ b
    unfolding splits
    split_by = ap (λ r. r && (f.operation e.from && f.operation e.to && not (eqb e.from e.to) && eqb (length e.rests) 0)) (roomy-at m) ∙ sym q

    pub split-wrong : b ≡ false → (from' to' other' : List ℕ) → Taken f K from to other n e Wrong from' to' other'
    unfolding branch_after went
    split-wrong h from' to' other' = record {
      rest = λ es. refutes-split f K E Es e es z ∙ ap (λ t. t && refutes f K (named E e.from e.to ∷ named E e.to e.from ∷ Es) es) (split_by ∙ h);
      short = omega arith;
    }

    pub split_goes : b ≡ true → n < length from → n < length to → n < length other
        → Taken f K from to other n e (Goes (n + 1)) (set from n e.from) (set to n e.to) (set other n 1)
    unfolding branch_after went
    split_goes h lf lt lo = record {
      rest = λ es. refutes-split f K E Es e es z ∙ ap (λ t. t && refutes f K (named E e.from e.to ∷ named E e.to e.from ∷ Es) es) (split_by ∙ h)
          ∙ ap (λ Gs. refutes f K Gs es) (sym (goals-split from to other n e.from e.to lf lt lo));
      short = omega (arith, m);
    }

module _ (t : Trace) (len : t.len ≤ RECORDS) (K : Table) (from to other : List ℕ) (n : ℕ) (e : Entry) (p : e.rule ≢ 0) (z : e.rule ≢ 8) (m : n < BRANCH) (b : Bool)
    (q : b ≡ (may_rest e.rule (length e.rests) && gives? (frame_of t) K nothing (link_joins (link_of (branch_of from to n) e.rests)) e.from e.to e.rule)) where
  fits_by : fits (frame_of t) K (branch_of from to n) e ≡ b
  unfolding fits
  fits_by =
      let k = may_rest e.rule (length e.rests) in
      ap (λ r. r && (k && gives? (frame_of t) K nothing (chained (branch_of from to n) e.rests) e.from e.to e.rule)) (roomy-at (frame_of t) K from to other n e m)
      ∙ ap (λ C. k && gives? (frame_of t) K nothing C e.from e.to e.rule) (fun_ext (λ x. fun_ext (λ y. chained-link (branch_of from to n) e.rests x y)))
      ∙ ap (λ g. k && g) (sym (gives-link t len K (link_of (branch_of from to n) e.rests) e.from e.to e.rule)) ∙ sym q

  pub edge-wrong : b ≡ false → (from' to' other' : List ℕ) → Taken (frame_of t) K from to other n e Wrong from' to' other'
  unfolding branch_after went
  edge-wrong h from' to' other' = record {
    rest = λ es. refutes-edge (frame_of t) K (branch_of from to n) (others_of from to other n) e es p z
        ∙ ap (λ c. c && refutes (frame_of t) K (named (branch_of from to n) e.from e.to ∷ others_of from to other n) es) (fits_by ∙ h);
    short = omega arith;
  }

  pub edge_goes : b ≡ true → n < length from → n < length to → n < length other
      → Taken (frame_of t) K from to other n e (Goes (n + 1)) (set from n e.from) (set to n e.to) (set other n 0)
  unfolding branch_after went
  edge_goes h lf lt lo = record {
    rest = λ es. refutes-edge (frame_of t) K (branch_of from to n) (others_of from to other n) e es p z
        ∙ ap (λ c. c && refutes (frame_of t) K (named (branch_of from to n) e.from e.to ∷ others_of from to other n) es) (fits_by ∙ h)
        ∙ ap (λ Gs. refutes (frame_of t) K Gs es) (sym (goals-edge from to other n e.from e.to lf lt lo));
    short = omega (arith, m);
  }
