-- How the pair to split on is found, pair by pair.
--
--   first-at, first-none     == the first pair that passes a test, as a loop finds it
--   rank-small, rank-swapped == no rank is higher than that of a pair of which both sides fall; a pair turned round has the same
--   rank-levels              == the tests of the definition, by the rank
--   choose-best, choose-at   == the first pair of the highest rank is the one chosen
--   best-start, best-row, best-higher, best-same, best-next, best-top == the best pair so far
--   rank-by, higher-by       == the rank, by what a function asks
--   ranked-half, ranked-one, ranked-none == a rank, by the sides that fall
--   open-known, open-operations == whether a pair is open, by the rows of the branch; then it joins operations
use mathlib.Core.Path.{◌≡◌, refl, sym, ap, ap₂, ◌∙◌, subst, subst⁻¹}
use mathlib.Core.Logic.{◌↔◌, inl, inr}
use mathlib.Core.Bool.{Bool, true, false, So, cond, not, ◌&&◌, ◌||◌, false≢true}
use mathlib.Core.List.{List}
use mathlib.Core.Option.{Option, none, some}
use Prim.Native.Nat.{ℕ, ◌+◌, ◌<◌, ◌≤◌}
use native.Mathlib.Omega.{arith}
use lib.Dec.{leb}
use Rattle.laws.specs.Tests.{any}
use Rattle.laws.specs.Relation.{Table}
use Rattle.laws.specs.Lowest.{lowest}
use Rattle.laws.proofs.Tests.{off, so-any, so-le, same-iff, test-one, three, and-iff}
use Rattle.laws.proofs.LowestLoops.{lowest-found, lowest-nothing}
use Rattle.trace.specs.Bounds.{RECORDS}
use Rattle.trace.specs.WellFormed.{well_formed}
use Rattle.trace.specs.Meaning.{frame_of}
use Rattle.trace.specs.declared.Trace.{Trace}
use Rattle.trace.proofs.Good.{good}
use Rattle.rows.specs.Rows.{bit}
use Rattle.pairs.specs.Kept.{kept_of}
use Rattle.rules.specs.Frame.{Frame}
use Rattle.rules.specs.RuleTests.{writer?}
use Rattle.rules.proofs.RuleTests.{writer-iff}
use Rattle.papers.specs.Paper.{Claim, named}
use Rattle.reasons.specs.Writing.{fallen, open?, falls, falls₂, first_pair, or_pair, choose}
use Rattle.reasons.specs.inner.Choice.{BOTH, one_more, rank_of, Known, Higher, PairBefore, Best, ChosenPair}
use Rattle.reasons.specs.declared.choice.Choice.{Choice}
use Rattle.reasons.proofs.Choosing.{Open, open-iff}

module _ (n : ℕ) (t : Table) where
  pub first-at : (x y : ℕ) → x < n → y < n → So (t x y) → ((a b : ℕ) → b < n → PairBefore a b x y → So (t a b) → ⊥) → first_pair n t ≡ some (x, y)
  unfolding first_pair
  first-at x y hx hy s out =
      let row : lowest (λ x. any n (t x)) n 0 ≡ some x = lowest-found (λ x. any n (t x)) n x (λ a l. off (λ u. let r = (so-any n (t a)).0 u in out a r.0 r.1 (inl l) r.2)) hx ((so-any n (t x)).1 (y, hy, s)) in
      let cell : lowest (t x) n 0 ≡ some y = lowest-found (t x) n y (λ b l. off (λ u. out x b (omega arith) (inr (refl, l)) u)) hy s in
      ap (λ (o : Option ℕ). elim o [ some x ↦ elim (lowest (t x) n 0) [ some y ↦ some (x, y) | none ↦ none ] | none ↦ none ]) row
      ∙ ap (λ (o : Option ℕ). elim o [ some y ↦ some (x, y) | none ↦ none ]) cell

  pub first-none : ((a b : ℕ) → a < n → b < n → So (t a b) → ⊥) → first_pair n t ≡ none
  unfolding first_pair
  first-none out =
      ap (λ (o : Option ℕ). elim o [ some x ↦ elim (lowest (t x) n 0) [ some y ↦ some (x, y) | none ↦ none ] | none ↦ none ])
      (lowest-nothing (λ x. any n (t x)) n n (λ a l. off (λ u. let r = (so-any n (t a)).0 u in out a r.0 l r.1 r.2)) (omega arith))

-- a rank, by whether the pair is open and which of its sides fall
abbrev pub ranked : Bool → Bool → Bool → ℕ
ranked o a b = cond o (1 + (one_more a + one_more b)) 0

ranked-small : (o a b : Bool) → ranked o a b ≤ BOTH
ranked-small false a b = omega arith
ranked-small true true true = omega arith
ranked-small true true false = omega arith
ranked-small true false true = omega arith
ranked-small true false false = omega arith

ranked-swapped : (o a b : Bool) → ranked o a b ≡ ranked o b a
ranked-swapped false a b = refl
ranked-swapped true a b = let q : 1 + (one_more a + one_more b) ≡ 1 + (one_more b + one_more a) = omega arith in q

levels : (o a b : Bool) → (leb 1 (ranked o a b) ≡ o) × (leb 2 (ranked o a b) ≡ (o && (a || b))) × (leb BOTH (ranked o a b) ≡ (o && (a && b)))
levels false a b = (refl, refl, refl)
levels true true true = (refl, refl, refl)
levels true true false = (refl, refl, refl)
levels true false true = (refl, refl, refl)
levels true false false = (refl, refl, refl)

-- the best pair so far
module _ (n : ℕ) (R : ℕ → ℕ → ℕ) (tops : (a b : ℕ) → R a b ≤ BOTH) where
  pub best-start : Best n R 0 0 (record { rank = 0; x = 0; y = 0 })
  best-start = record { top = λ a b l h e. elim e [ inl z ↦ absurd (omega arith) | inr z ↦ absurd (omega (arith, z.1)) ]; small = omega arith; found = inl refl }

  module _ (x y : ℕ) (c : Choice) (h : Best n R x y c) where
    pub best-top : BOTH ≤ c.rank → (u v : ℕ) → Best n R u v c
    best-top l u v = record { top = λ a b _ _ _. omega (arith, tops a b); small = h.small; found = h.found }

    pub best-next : n ≤ y → Best n R (x + 1) 0 c
    best-next l = record {
      top = λ a b p q e. h.top a b p q (elim e [ inl z ↦ elim (three a x) [ inl k ↦ inl k | inr k ↦ inr (elim k [ inl k ↦ (k, omega arith) | inr k ↦ absurd (omega arith) ]) ] | inr z ↦ absurd (omega (arith, z.1)) ]);
      small = h.small;
      found = h.found;
    }

    -- one pair more, x and y
    module _ (r : ℕ) (hi : Higher c.rank (R x y) r) where
      again : (k : ℕ) → r ≤ k → (a b : ℕ) → a < b → b < n → PairBefore a b x (y + 1) → R a b ≤ k
      again k l a b p q (inl z) = omega (arith, h.top a b p q (inl z), hi.keeps)
      again k l a b p q (inr z) = elim (three b y) [
        | inl s ↦ omega (arith, h.top a b p q (inr (z.0, s)), hi.keeps)
        | inr s ↦ elim s [
          | inl e ↦ let q : R a b ≡ R x y = ap₂ R z.0 e in omega (arith, q, hi.reaches)
          | inr s ↦ absurd (omega (arith, z.1))
        ]
      ]

      pub best-same : r ≤ c.rank → Best n R x (y + 1) c
      best-same l = record { top = again c.rank l; small = h.small; found = h.found }

      pub best-higher : c.rank < r → x < y → y < n → Best n R x (y + 1) (record { rank = r; x = x; y = y })
      best-higher l o b =
          let e : r ≡ R x y = elim hi.one [ inl q ↦ absurd (omega (arith, q)) | inr q ↦ q ] in
          record {
            top = again r (omega arith);
            small = omega (arith, e, tops x y);
            found = inr (record { ordered = o; below = b; rank = sym e; first = λ a b p q z. omega (arith, h.top a b p q z) });
          }

  pub best-row : (x : ℕ) (c : Choice) → Best n R x 0 c → Best n R x (x + 1) c
  best-row x c h = record {
    top = λ a b p q e. h.top a b p q (elim e [ inl z ↦ inl z | inr z ↦ absurd (omega (arith, z.0, z.1)) ]);
    small = h.small;
    found = h.found;
  }

module _ (f : Frame) (K : Table) (E : List Claim) where
  pub rank-small : (a b : ℕ) → rank_of f K E a b ≤ BOTH
  unfolding rank_of
  rank-small a b = ranked-small (open? f K E a b) (fallen f K (named E a b)) (fallen f K (named E b a))

  -- a pair is open either way round
  turned : (x y : ℕ) → Open f K E x y → Open f K E y x
  turned x y o = (
    (
      ((o.0.0.0.1.writes, record { writes = o.0.0.0.0; same = sym o.0.0.0.1.same; other = λ e. o.0.0.0.1.other (sym e) }), elim o.0.0.1 [ inl u ↦ inr u | inr u ↦ inl u ]),
      o.1,
    ),
    o.0.1,
  )

  pub rank-swapped : (x y : ℕ) → rank_of f K E x y ≡ rank_of f K E y x
  unfolding rank_of
  rank-swapped x y =
      ap (λ o. ranked o (fallen f K (named E x y)) (fallen f K (named E y x)))
      (test-one {A = Open f K E x y} (open-iff f K E x y) (let i = open-iff f K E y x in (λ u. turned y x (i.0 u), λ o. i.1 (turned x y o))))
      ∙ ranked-swapped (open? f K E y x) (fallen f K (named E x y)) (fallen f K (named E y x))

  -- no pair of a record with itself is open
  rank-alone : (x : ℕ) → 1 ≤ rank_of f K E x x → ⊥
  unfolding rank_of
  rank-alone x h =
      let s : So (open? f K E x x) = sym (levels (open? f K E x x) (fallen f K (named E x x)) (fallen f K (named E x x))).0 ∙ so-le.1 h in
      ((open-iff f K E x x).0 s).0.0.0.1.other refl

  -- a test that the pairs of some rank pass
  module _ (level : ℕ) (some-rank : 1 ≤ level) (t : Table) (same : (a b : ℕ) → So (t a b) → level ≤ rank_of f K E a b) (c : Choice) (h : Best f.records (rank_of f K E) f.records 0 c) where
    level-none : c.rank < level → first_pair f.records t ≡ none
    level-none l = first-none f.records t (λ a b p q s. elim (three a b) [
      | inl z ↦ omega (arith, same a b s, h.top a b z q (inl p))
      | inr z ↦ elim z [
        | inl e ↦ rank-alone b (let r : 1 ≤ rank_of f K E a b = omega (arith, same a b s) in subst (λ (a : ℕ). 1 ≤ rank_of f K E a b) e r)
        | inr z ↦ omega (arith, same a b s, rank-swapped a b, h.top b a z p (inl q))
      ]
    ])

    level-some : (back : (a b : ℕ) → level ≤ rank_of f K E a b → So (t a b)) → c.rank ≡ level → first_pair f.records t ≡ some (c.x, c.y)
    level-some back e = elim h.found [
      | inl z ↦ absurd (omega (arith, z, e))
      | inr g ↦ first-at f.records t c.x c.y (omega (arith, g.ordered, g.below)) g.below (back c.x c.y (omega (arith, g.rank, e))) (λ a b q z s. elim (three a b) [
        | inl l ↦ omega (arith, same a b s, g.first a b l q z, e)
        | inr l ↦ elim l [
          | inl e ↦ rank-alone b (let r : 1 ≤ rank_of f K E a b = omega (arith, same a b s) in subst (λ (a : ℕ). 1 ≤ rank_of f K E a b) e r)
          | inr l ↦ let u : (a < f.records) × (b < c.x) = elim z [ inl z ↦ (omega (arith, g.ordered, g.below), omega arith) | inr z ↦ (omega (arith, z.0, g.ordered, g.below), omega (arith, z.0)) ] in
              omega (arith, same a b s, rank-swapped a b, g.first b a l u.0 (inl u.1), e)
        ]
      ])
    ]

  one : (a b : ℕ) → So (open? f K E a b) ↔ (1 ≤ rank_of f K E a b)
  unfolding rank_of
  one a b =
      let q = (levels (open? f K E a b) (fallen f K (named E a b)) (fallen f K (named E b a))).0 in
      (λ s. so-le.0 (q ∙ s), λ l. sym q ∙ so-le.1 l)

  two : (a b : ℕ) → So (open? f K E a b && falls f K E a b) ↔ (2 ≤ rank_of f K E a b)
  unfolding rank_of falls
  two a b =
      let q = (levels (open? f K E a b) (fallen f K (named E a b)) (fallen f K (named E b a))).1 in
      (λ s. so-le.0 (q ∙ s), λ l. sym q ∙ so-le.1 l)

  both : (a b : ℕ) → So (open? f K E a b && falls₂ f K E a b) ↔ (BOTH ≤ rank_of f K E a b)
  unfolding rank_of falls₂
  both a b =
      let q = (levels (open? f K E a b) (fallen f K (named E a b)) (fallen f K (named E b a))).2 in
      (λ s. so-le.0 (q ∙ s), λ l. sym q ∙ so-le.1 l)

  pub choose-best : (c : Choice) → Best f.records (rank_of f K E) f.records 0 c → ChosenPair (choose f K E) c
  unfolding choose
  choose-best c h = elim (three c.rank 2) [
    | inl low ↦ elim (three c.rank 1) [
      | inl l ↦ chosen none (ap₂ or_pair (third (omega arith)) (ap₂ or_pair (second (omega arith)) (level-none 1 (omega arith) (open? f K E) (λ a b. (one a b).0) c h l))) (omega arith)
      | inr l ↦ let e : c.rank ≡ 1 = elim l [ inl e ↦ e | inr l ↦ absurd (omega arith) ] in
          chosen (some (c.x, c.y)) (ap₂ or_pair (third (omega arith)) (ap₂ or_pair (second (omega arith)) (level-some 1 (omega arith) (open? f K E) (λ a b. (one a b).0) c h (λ a b. (one a b).1) e))) (refl, refl)
    ]
    | inr l ↦ elim l [
      | inl e ↦ chosen (some (c.x, c.y)) (ap₂ or_pair (third (omega arith)) (ap (λ o. or_pair o (first_pair f.records (open? f K E))) (level-some 2 (omega arith) (λ x y. open? f K E x y && falls f K E x y) (λ a b. (two a b).0) c h (λ a b. (two a b).1) e))) (refl, refl)
      | inr l ↦ let e : c.rank ≡ BOTH = omega (arith, h.small) in
          chosen (some (c.x, c.y)) (ap (λ o. or_pair o rest) (level-some BOTH (omega arith) (λ x y. open? f K E x y && falls₂ f K E x y) (λ a b. (both a b).0) c h (λ a b. (both a b).1) e)) (refl, refl)
    ]
  ]
    where
      rest : Option (ℕ × ℕ)
      rest = or_pair (first_pair f.records (λ x y. open? f K E x y && falls f K E x y)) (first_pair f.records (open? f K E))

      chosen : (o : Option (ℕ × ℕ)) → or_pair (first_pair f.records (λ x y. open? f K E x y && falls₂ f K E x y)) (or_pair (first_pair f.records (λ x y. open? f K E x y && falls f K E x y)) (first_pair f.records (open? f K E))) ≡ o → ChosenPair o c → ChosenPair (choose f K E) c
      chosen o e p = subst⁻¹ (λ (o : Option (ℕ × ℕ)). ChosenPair o c) e p

      third : c.rank < BOTH → first_pair f.records (λ x y. open? f K E x y && falls₂ f K E x y) ≡ none
      third l = level-none BOTH (omega arith) (λ x y. open? f K E x y && falls₂ f K E x y) (λ a b. (both a b).0) c h l

      second : c.rank < 2 → first_pair f.records (λ x y. open? f K E x y && falls f K E x y) ≡ none
      second l = level-none 2 (omega arith) (λ x y. open? f K E x y && falls f K E x y) (λ a b. (two a b).0) c h l

  -- the rank of a pair, by what a function asks
  module _ (x y : ℕ) (o a b : Bool) (p : o ≡ open? f K E x y) (q : a ≡ fallen f K (named E x y)) (r : b ≡ fallen f K (named E y x)) where
    pub rank-by : rank_of f K E x y ≡ ranked o a b
    unfolding rank_of
    rank-by = sym (ap (λ o. ranked o a b) p ∙ ap₂ (ranked (open? f K E x y)) q r)

    -- the higher of the best so far and this one
    pub higher-by : (best s : ℕ) → Higher best (ranked o a b) s → Higher best (rank_of f K E x y) s
    higher-by best s h = subst⁻¹ (λ (k : ℕ). Higher best k s) rank-by h

pub ranked-half : (b : Bool) → ranked true false b ≤ 2
ranked-half true = omega arith
ranked-half false = omega arith

pub ranked-one : (a b : Bool) → (a && b) ≡ false → So (a || b) → ranked true a b ≡ 2
ranked-one true true e s = absurd (false≢true (sym e))
ranked-one true false e s = refl
ranked-one false true e s = refl
ranked-one false false e s = absurd (false≢true s)

pub ranked-none : (a b : Bool) → (a || b) ≡ false → ranked true a b ≡ 1
ranked-none true b e = absurd (false≢true (sym e))
ranked-none false true e = absurd (false≢true (sym e))
ranked-none false false e = refl

module _ (t : Trace) (w : So (well_formed t)) (m x y : ℕ) where
  pub open-known : (E : List Claim) (rows read held : List ℕ) → Known t m E rows read held → x < RECORDS → y < RECORDS
      → ((frame_of t).writes x && writer? (frame_of t) y x && (bit read 0 x || bit read 0 y) && not (bit held x y) && not (bit held y x)) ≡ open? (frame_of t) (kept_of m t) E x y
  unfolding open?
  open-known E rows read held k hx hy = rw (k.read-from x hx, k.read-from y hy, k.held_rows x y, k.held_rows y x) refl

  pub open-operations : (c d e : Bool) → So ((frame_of t).writes x && writer? (frame_of t) y x && c && d && e) → So ((frame_of t).operation x) × So ((frame_of t).operation y)
  open-operations c d e s =
      let p = (and-iff (and-iff (and-iff (and-iff (same-iff {a = (frame_of t).writes x}) (writer-iff (frame_of t) y x)) (same-iff {a = c})) (same-iff {a = d})) (same-iff {a = e})).0 s in
      let g = good t w in
      (g.writes x p.0.0.0.0, g.writes y p.0.0.0.1.writes)

-- the pairs of all records are looked at
pub choose-at : (t : Trace) (m : ℕ) (E : List Claim) (x : ℕ) (c : Choice) → x ≡ t.len → Best t.len (rank_of (frame_of t) (kept_of m t) E) x 0 c → ChosenPair (choose (frame_of t) (kept_of m t) E) c
unfolding frame_of
choose-at t m E x c e h = choose-best (frame_of t) (kept_of m t) E c (subst (λ (x : ℕ). Best t.len (rank_of (frame_of t) (kept_of m t) E) x 0 c) e h)
