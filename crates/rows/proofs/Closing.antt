-- The closing of rows, turn by turn.
--
--   Adding e New m n t              == t is e with those pairs of New whose measure m is below n
--   adding-none, adding-more, adding-same, added == before the first step, a step, a step that adds nothing, past the last step
--   join-none, join-word, joined                 == the steps of what row k gives to row x, word by word
--   pass-none, pass-join, pass-skip, passed      == the steps of what leads through k, row by row
--   pass-bare                                    == through a number that is before none leads nothing
--   height-all, height-less                      == only rows of records have pairs; one row fewer
--   Stage e k t                     == t holds the chains of e through numbers below k
--   stage-none, stage-more          == before the first number, and one number more
--   stage-below                     == no row has a pair that had none
--   stage-all                       == past the last one
--   chained, unchained              == rows of the full length, and of another
--   chained-one                     == no second list holds the chains
use mathlib.Core.Path.{◌≡◌, refl, sym, ◌∙◌, subst}
use mathlib.Core.Logic.{◌≢◌, ◌⊎◌, inl, inr, ◌↔◌}
use mathlib.Core.Bool.{Bool, false, So, false≢true}
use mathlib.Core.List.{List}
use Prim.Native.Nat.{ℕ, zero, suc, ◌+◌, ◌-◌, ◌*◌, ◌/◌, ◌%◌, ◌<◌, ◌≤◌}
use native.Mathlib.Numerals.{add-one}
use native.Mathlib.Omega.{arith}
use lib.ListN.{length, get_or}
use lib.Seq.{set_out}
use Rattle.laws.specs.Bits.{bit_of}
use Rattle.laws.specs.Relation.{Rel}
use Rattle.laws.proofs.Tests.{test-one, and-iff, or-iff, same-iff, so-eq, so-lt, eq?}
use Rattle.laws.proofs.Via.{Via, last, thru, via-zero, via-more, chain-iff-via, cell}
use Rattle.trace.specs.Bounds.{RECORDS}
use Rattle.rows.specs.Bounds.{WIDTH, WORDS, CELLS}
use Rattle.rows.specs.Rows.{place, bit, Edges, Words}
use Rattle.rows.specs.inner.AddedPairs.{Added, Row, Through, RowsBelow}
use Rattle.rows.specs.inner.HoldsChains.{HoldsChains}
use Rattle.rows.specs.Empty.{empty_of}
use Rattle.rows.specs.Chained.{Chained}
use Rattle.rows.proofs.Rows.{row-full, bit_at, bit-bounds}
use Rattle.rows.proofs.Or.{or_of, or_long, or-words, or-bits}
use Rattle.rows.proofs.Against.{bit_word, word_small}
use Rattle.rows.specs.Within.{word_of, Within}
use Rattle.rows.specs.AddRow.{taken_over, add_row_of}
use Rattle.rows.proofs.Whole.{empty-bit, rows-one}

-- Pairs are added step by step --------------------------------------------------------------------------------------------------------------

pub record Adding (e : List ℕ) (New : Rel) (m : ℕ → ℕ → ℕ) (n : ℕ) (t : List ℕ) : Type 0 where
  pub long : length t ≡ length e
  pub words : Words e → Words t
  pub pairs : (i j : ℕ) → So (bit t i j) ↔ (Edges e i j ⊎ ((m i j < n) × New i j))

module _ (e : List ℕ) (New : Rel) (m : ℕ → ℕ → ℕ) where
  pub adding-none : Adding e New m 0 e
  adding-none = record { long = refl; words = λ w. w; pairs = λ i j. (inl, λ s. elim s [ inl r ↦ r | inr q ↦ absurd (omega (arith, q.0)) ]) }

  module _ (n : ℕ) (t : List ℕ) (now : Adding e New m n t) where
    pub adding-more : (u : List ℕ) → length u ≡ length t → (Words t → Words u) → ((i j : ℕ) → So (bit u i j) ↔ (So (bit t i j) ⊎ ((m i j ≡ n) × New i j))) → Adding e New m (n + 1) u
    adding-more u l w step = record { long = l ∙ now.long; words = λ v. w (now.words v); pairs = λ i j. (forth i j, back i j) }
      where
        forth : (i j : ℕ) → So (bit u i j) → Edges e i j ⊎ ((m i j < n + 1) × New i j)
        forth i j h = elim ((step i j).0 h) [
          | inl g ↦ elim ((now.pairs i j).0 g) [ inl r ↦ inl r | inr q ↦ inr (omega (arith, q.0), q.1) ]
          | inr q ↦ inr (omega (arith, q.0), q.1)
        ]

        back : (i j : ℕ) → Edges e i j ⊎ ((m i j < n + 1) × New i j) → So (bit u i j)
        back i j (inl r) = (step i j).1 (inl ((now.pairs i j).1 (inl r)))
        back i j (inr q) = elim (eq? (m i j) n) [
          | inl p ↦ (step i j).1 (inr (p, q.1))
          | inr d ↦ (step i j).1 (inl ((now.pairs i j).1 (inr (omega (arith, q.0), q.1))))
        ]

    pub adding-same : ((i j : ℕ) → m i j ≡ n → New i j → ⊥) → Adding e New m (n + 1) t
    adding-same none = adding-more t refl (λ w. w) (λ i j. (inl, λ s. elim s [ inl g ↦ g | inr q ↦ absurd (none i j q.0 q.1) ]))

    pub added : ((i j : ℕ) → New i j → m i j < n) → Added e New t
    added all = record {
      long = now.long;
      words = now.words;
      pairs = λ i j. (
        λ g. elim ((now.pairs i j).0 g) [ inl r ↦ inl r | inr q ↦ inr q.1 ],
        λ s. (now.pairs i j).1 (elim s [ inl r ↦ inl r | inr q ↦ inr (all i j q, q) ]),
      );
    }

-- What row k gives to row x, word by word ----------------------------------------------------------------------------------------------------

abbrev pub Joining : List ℕ → ℕ → ℕ → ℕ → List ℕ → Type 0
Joining e x k i t = Adding e (Row e x k) (λ _ y. y / WIDTH) i t

-- word i of row x takes over a word q, which has the bits of what is given
module _ (t : List ℕ) (x i q : ℕ) (given : ℕ → Bool) (same : (y : ℕ) → y < RECORDS → y / WIDTH ≡ i → given y ≡ bit_of q (y % WIDTH)) (below : (y : ℕ) → So (given y) → y < RECORDS)
    (hx : x < RECORDS) (hi : i < WORDS) (l : x * WORDS + i < length t) where
  abbrev grown : List ℕ
  grown = or_of t (x * WORDS + i) q

  -- of records, a bit is in the word that has grown or it is as before
  grown-in : (a y : ℕ) → a < RECORDS → y < RECORDS → So (bit grown a y) ↔ (Edges t a y ⊎ ((y / WIDTH ≡ i) × ((a ≡ x) × So (given y))))
  grown-in a y ha hy =
      let word = or-bits t (x * WORDS + i) q (omega arith) (place a y) (y % WIDTH) in
      let tests = or-iff (same-iff {a = bit_of (get_or t (place a y) 0) (y % WIDTH)}) (and-iff (so-eq {m = place a y} {n = x * WORDS + i}) (same-iff {a = bit_of q (y % WIDTH)})) in
      rw (bit_at grown a y ha hy, bit_at t a y ha hy, word) (
        λ h. elim (tests.0 h) [
          | inl g ↦ inl g
          | inr p ↦ let e : y / WIDTH ≡ i = omega (arith, p.0, row-full) in inr (e, (omega (arith, p.0, row-full), same y hy e ∙ p.1))
        ],
        λ s. tests.1 (elim s [ inl g ↦ inl g | inr p ↦ inr (omega (arith, p.0, p.1.0), sym (same y hy p.0) ∙ p.1.1) ]),
      )

  pub grown-iff : (a y : ℕ) → So (bit grown a y) ↔ (Edges t a y ⊎ ((y / WIDTH ≡ i) × ((a ≡ x) × So (given y))))
  grown-iff a y = (
    λ h. let b = bit-bounds grown a y h in (grown-in a y b.0 b.1).0 h,
    λ s.
        let b : (a < RECORDS) × (y < RECORDS) = elim s [ inl g ↦ bit-bounds t a y g | inr p ↦ (omega (arith, p.1.0), below y p.1.1) ] in
        (grown-in a y b.0 b.1).1 s,
  )

pub join-none : (e : List ℕ) (x k : ℕ) → Joining e x k 0 e
join-none e x k = adding-none e (Row e x k) (λ _ y. y / WIDTH)

module _ (e t : List ℕ) (x k i : ℕ) (now : Joining e x k i t) where
  -- row k is not changed by what it gives
  join-row : (y : ℕ) → So (bit t k y) ↔ Edges e k y
  join-row y = (λ h. elim ((now.pairs k y).0 h) [ inl r ↦ r | inr q ↦ q.1.1 ], λ r. (now.pairs k y).1 (inl r))

  pub join-word : x < RECORDS → k < RECORDS → i < WORDS → length t ≡ CELLS → Joining e x k (i + 1) (or_of t (x * WORDS + i) (get_or t (k * WORDS + i) 0))
  join-word hx hk hi l =
      adding-more e (Row e x k) (λ _ y. y / WIDTH) i t now (or_of t (x * WORDS + i) q) (or_long t (x * WORDS + i) q)
      (λ words. or-words t (x * WORDS + i) q (words (k * WORDS + i)) words)
      (λ a y.
      let given = grown-iff t x i q (bit t k) (λ y h e. bit_at t k y hk h ∙ rw e refl) (λ y h. (bit-bounds t k y h).1) hx hi (omega arith) a y in (
        λ h. elim (given.0 h) [ inl g ↦ inl g | inr p ↦ inr (p.0, (p.1.0, (join-row y).0 p.1.1)) ],
        λ s. given.1 (elim s [ inl g ↦ inl g | inr p ↦ inr (p.0, (p.1.0, (join-row y).1 p.1.1)) ]),
      ))
    where
      q : ℕ
      q = get_or t (k * WORDS + i) 0

  pub joined : WORDS ≤ i → Added e (Row e x k) t
  joined h = added e (Row e x k) (λ _ y. y / WIDTH) i t now (λ _ y q. omega (arith, row-full, (bit-bounds e k y q.1).1))

-- What leads through k, row by row -----------------------------------------------------------------------------------------------------------

abbrev pub Passing : List ℕ → ℕ → ℕ → List ℕ → Type 0
Passing e k x t = Adding e (Through e k) (λ i j. i) x t

pub pass-none : (e : List ℕ) (k : ℕ) → Passing e k 0 e
pass-none e k = adding-none e (Through e k) (λ i j. i)

module _ (e t : List ℕ) (k x : ℕ) (now : Passing e k x t) where
  -- row k is not changed by passing through k, and row x not yet
  pass-row : (j : ℕ) → So (bit t k j) ↔ Edges e k j
  pass-row j = (λ h. elim ((now.pairs k j).0 h) [ inl r ↦ r | inr q ↦ q.1.1 ], λ r. (now.pairs k j).1 (inl r))

  pass-next : (j : ℕ) → So (bit t x j) ↔ Edges e x j
  pass-next j = (λ h. elim ((now.pairs x j).0 h) [ inl r ↦ r | inr q ↦ absurd (omega (arith, q.0)) ], λ r. (now.pairs x j).1 (inl r))

  pub pass-join : (u : List ℕ) → So (bit t x k) → Added t (Row t x k) u → Passing e k (x + 1) u
  pass-join u has done =
      adding-more e (Through e k) (λ i j. i) x t now u done.long done.words
      (λ i j. (
        λ h. elim ((done.pairs i j).0 h) [
          | inl g ↦ inl g
          | inr q ↦ inr (q.0, (subst (λ (n : ℕ). Edges e n k) (sym q.0) ((pass-next k).0 has), (pass-row j).0 q.1))
        ],
        λ s. (done.pairs i j).1 (elim s [ inl g ↦ inl g | inr q ↦ inr (q.0, (pass-row j).1 q.1.1) ]),
      ))

  pub pass-skip : bit t x k ≡ false → Passing e k (x + 1) t
  pass-skip off =
      adding-same e (Through e k) (λ i j. i) x t now
      (λ i j p q. false≢true (sym off ∙ (pass-next k).1 (subst (λ (n : ℕ). Edges e n k) p q.0)))

  pub passed : (n : ℕ) → RowsBelow e n → n ≤ x → Added e (Through e k) t
  passed n low h = added e (Through e k) (λ i j. i) x t now (λ i j q. omega (arith, low i k q.0))

pub pass-bare : (e : List ℕ) (k : ℕ) → ((j : ℕ) → Edges e k j → ⊥) → Added e (Through e k) e
pass-bare e k bare = record { long = refl; words = λ w. w; pairs = λ i j. (inl, λ s. elim s [ inl r ↦ r | inr q ↦ absurd (bare j q.1) ]) }

pub height-all : (e : List ℕ) → RowsBelow e RECORDS
height-all e x y t = (bit-bounds e x y t).0

pub height-less : (e : List ℕ) (n : ℕ) → RowsBelow e n → Within e (n - 1) (empty_of WORDS) 0 → RowsBelow e (n - 1)
height-less e n low w x y t = elim (eq? x (n - 1)) [
  | inl q ↦ absurd (false≢true (sym (empty-bit WORDS 0 y) ∙ w y (subst (λ (x : ℕ). Edges e x y) q t)))
  | inr d ↦ omega (arith, low x y t)
]

-- All of them --------------------------------------------------------------------------------------------------------------------------------

pub record Stage (e : List ℕ) (k : ℕ) (t : List ℕ) : Type 0 where
  pub long : length t ≡ length e
  pub words : Words e → Words t
  pub via : (x y : ℕ) → So (bit t x y) ↔ Via (Edges e) k x y

pub stage-none : (e : List ℕ) → Stage e 0 e
stage-none e = record { long = refl; words = λ w. w; via = λ x y. let z = via-zero (Edges e) {x = x} {y = y} in (z.1, z.0) }

pub stage-more : (e : List ℕ) (k : ℕ) (t u : List ℕ) → Stage e k t → Added t (Through t k) u → Stage e (k + 1) u
stage-more e k t u s p = rw add-one record {
  long = p.long ∙ s.long;
  words = λ w. p.words (s.words w);
  via = λ x y.
      let parts = or-iff (same-iff {a = bit t x y}) (and-iff (same-iff {a = bit t x k}) (same-iff {a = bit t k y})) in
      let step = cell (Edges e) k (bit t) (λ x y. (s.via x y).1) (λ x y h. via-more (Edges e) ((s.via x y).0 h)) x y in
      (λ h. step.0 (parts.1 ((p.pairs x y).0 h)), λ v. (p.pairs x y).1 (parts.0 (step.1 v)));
}

-- a chain begins where an edge does
pub stage-below : (e : List ℕ) (k : ℕ) (t : List ℕ) (n : ℕ) → Stage e k t → RowsBelow e n → RowsBelow t n
stage-below e k t n s low x y h = from ((s.via x y).0 h)
  where
    from : Via (Edges e) k x y → x < n
    from (last d) = low x y d
    from (thru {y = z} d l v) = low x z d

pub stage-all : (e : List ℕ) (k : ℕ) (t : List ℕ) → k ≡ RECORDS → Stage e k t → HoldsChains e t
stage-all e k t end r =
    let s : Stage e RECORDS t = rw end at r in
    record {
      long = s.long;
      words = s.words;
      chains = λ x y. let c = chain-iff-via (Edges e) RECORDS (bit-bounds e) x y in (λ h. c.0 ((s.via x y).0 h), λ v. (s.via x y).1 (c.1 v));
    }

pub chained : (e t : List ℕ) → length e ≡ CELLS → Words e → HoldsChains e t → Chained e t
chained e t l w s = record { long = s.long; words = s.words w; chains = λ _. s.chains; other = λ d. absurd (d l) }

pub unchained : (e : List ℕ) → length e ≢ CELLS → Words e → Chained e e
unchained e d w = record { long = refl; words = w; chains = λ l. absurd (d l); other = λ _. refl }

pub chained-one : (e a b : List ℕ) → Chained e a → Chained e b → a ≡ b
chained-one e a b p q = elim (eq? (length e) CELLS) [
  | inl l ↦ rows-one a b (p.long ∙ l) (q.long ∙ l) p.words q.words (λ x y. test-one (p.chains l x y) (q.chains l x y))
  | inr d ↦ p.other d ∙ sym (q.other d)
]

-- A row of another relation -----------------------------------------------------------------------------------------------------------------

module _ (from : List ℕ) (words : Words from) (m : ℕ) (e : List ℕ) (x : ℕ) (hx : x < RECORDS) (room : x * WORDS + WORDS ≤ length e) where
  abbrev Given : Rel
  Given i j = (i ≡ x) × Edges from m j

  taken : (n : ℕ) → n ≤ WORDS → Adding e Given (λ _ y. y / WIDTH) n (taken_over from m e x n)
  unfolding taken_over
  taken zero h = adding-none e Given (λ _ y. y / WIDTH)
  taken (suc i) h =
      let t : List ℕ = taken_over from m e x i in
      let now = taken i (omega arith) in
      let q : ℕ = word_of from m i in
      let more = adding-more e Given (λ _ y. y / WIDTH) i t now (or_of t (x * WORDS + i) q) (or_long t (x * WORDS + i) q) (or-words t (x * WORDS + i) q (word_small from words m i))
      (grown-iff t x i q (bit from m) (λ y h e. bit_word from m y h ∙ rw e refl) (λ y h. (bit-bounds from m y h).1) hx (omega arith) (omega (arith, now.long))) in
      rw add-one at more

  pub row-added : Added e Given (add_row_of from m e x)
  unfolding add_row_of
  row-added = rw (so-lt.1 hx) (added e Given (λ _ y. y / WIDTH) WORDS (taken_over from m e x WORDS) (taken WORDS (omega arith)) (λ i j p. omega (arith, row-full, (bit-bounds from m j p.1).1)))

-- the steps of the loop: a word is taken over, or it lies past the end
module _ (from : List ℕ) (m : ℕ) (e : List ℕ) (x i : ℕ) (t : List ℕ) (now : t ≡ taken_over from m e x i) where
  pub taken_word : (q : ℕ) → q ≡ word_of from m i → or_of t (x * WORDS + i) q ≡ taken_over from m e x (i + 1)
  unfolding taken_over
  taken_word q p = rw (add-one, now, p) refl

  pub taken-past : length t ≤ x * WORDS + i → t ≡ taken_over from m e x (i + 1)
  taken-past h = sym (set_out t (x * WORDS + i) _ h) ∙ taken_word (word_of from m i) refl
