-- A relation turned round, square by square.
--
--   part-cell                  == a cell of a square that is taken out of the rows
--   taking-more                == one word more of a square is taken
--   LayingSquare e s n p q i t == the rows below i of the square s are laid
--   square-none, square-row, square-skip, square-laid == before the first row, a row more, a row that is left out, past the last one
--   part_turned, part-bare     == a square taken, turned and laid has the pairs of its place turned round; past n there are none
--   Turning rows n c t         == the squares below c are turned round
--   turning-none, turning-more, turned_round == before the first square, a square more, past the last one
--   unturned                   == memory of another length
--   turned-one                 == no second list is the relation turned round
use mathlib.Core.Path.{◌≡◌, refl, sym, ap, ◌∙◌}
use mathlib.Core.Logic.{◌≢◌, ◌↔◌, ◌⊎◌, inl, inr}
use mathlib.Core.Bool.{Bool, So, cond, ◌&&◌, false≢true}
use mathlib.Core.List.{List}
use Prim.Native.Nat.{ℕ, ◌+◌, ◌*◌, ◌/◌, ◌%◌, ◌<◌, ◌≤◌}
use native.Mathlib.Decide.{dec_lt}
use native.Mathlib.Omega.{arith}
use borrow.Author.Count.{below_more}
use borrow.Author.Tests.{le-ltb}
use lib.Dec.{eqb, ltb}
use lib.ListN.{length, get_or, set}
use lib.Seq.{get_or-set_same, get_or-set_other}
use Rattle.laws.specs.Bits.{bit_of}
use Rattle.laws.proofs.Bits.{bit_of-zero}
use Rattle.laws.proofs.Tests.{and-iff, same-iff, so-eq, so-lt, eq?, test-one}
use Rattle.rows.specs.Bounds.{WIDTH, WORDS, CELLS}
use Rattle.rows.specs.Rows.{bit, Edges, Words}
use Rattle.rows.specs.Within.{word_of}
use Rattle.rows.specs.Empty.{empty_of}
use Rattle.rows.specs.TurnedRound.{TurnedRound}
use Rattle.rows.specs.inner.AddedPairs.{Added}
use Rattle.rows.specs.inner.Squares.{square_bit, Square, part, InSquare, LaysSquare, Turns}
use Rattle.rows.proofs.Rows.{row-full, bit-bounds}
use Rattle.rows.proofs.Or.{or_of, or_long, or-words}
use Rattle.rows.proofs.Against.{row-bit}
use Rattle.rows.proofs.Closing.{Adding, adding-none, adding-more, adding-same, added, grown-iff}
use Rattle.rows.proofs.Whole.{empty-bit, empty-long, empty-words, rows-one}

-- A square is taken ----------------------------------------------------------------------------------------------------------------------------

pub part-cell : (rows : List ℕ) (n p q i j : ℕ) → q < WORDS → j < WIDTH → (v : ℕ) → v ≡ cond (ltb (p * WIDTH + i) n) (word_of rows (p * WIDTH + i) q) 0 → bit_of v j ≡ part rows n p q i j
part-cell rows n p q i j h l v e = elim (dec_lt (p * WIDTH + i) n) [
  | yes a ↦ rw (e, (so-lt {m = p * WIDTH + i} {n = n}).1 a) (sym (row-bit rows (p * WIDTH + i) q j h l))
  | no a ↦ rw (e, le-ltb (p * WIDTH + i) n (omega arith)) (bit_of-zero j)
]

pub taking-more : (R : ℕ → ℕ → Bool) (s : List ℕ) (i v : ℕ) → i < length s → ((x : ℕ) → x < i → (j : ℕ) → j < WIDTH → square_bit s x j ≡ R x j) → ((j : ℕ) → j < WIDTH → bit_of v j ≡ R i j)
    → (x : ℕ) → x < i + 1 → (j : ℕ) → j < WIDTH → square_bit (set s i v) x j ≡ R x j
taking-more R s i v l h e =
    below_more (λ x. (j : ℕ) → j < WIDTH → square_bit (set s i v) x j ≡ R x j) i (λ x b j k. ap (λ (n : ℕ). bit_of n j) (get_or-set_other s i x v 0 (λ d. omega arith)) ∙ h x b j k)
    (λ j k. ap (λ (n : ℕ). bit_of n j) (get_or-set_same s i v 0 l) ∙ e j k)

-- A square is laid -----------------------------------------------------------------------------------------------------------------------------

abbrev pub LayingSquare : List ℕ → List ℕ → ℕ → ℕ → ℕ → ℕ → List ℕ → Type 0
LayingSquare e s n p q i t = Adding e (LaysSquare s n p q) (λ y _. y % WIDTH) i t

pub square-none : (e s : List ℕ) (n p q : ℕ) → LayingSquare e s n p q 0 e
square-none e s n p q = adding-none e (LaysSquare s n p q) (λ y _. y % WIDTH)

module _ (e s : List ℕ) (n p q i : ℕ) (t : List ℕ) (now : LayingSquare e s n p q i t) where
  pub square-row : Words s → p < WORDS → q < WORDS → i < WIDTH → q * WIDTH + i < n → length t ≡ CELLS → LayingSquare e s n p q (i + 1) (or_of t ((q * WIDTH + i) * WORDS + p) (get_or s i 0))
  square-row words hp hq hi hn l =
      adding-more e (LaysSquare s n p q) (λ y _. y % WIDTH) i t now (or_of t (y₀ * WORDS + p) v) (or_long t (y₀ * WORDS + p) v) (or-words t (y₀ * WORDS + p) v (words i))
      (λ y x. (
        λ h. elim ((given y x).0 h) [
          | inl g ↦ inl g
          | inr (c, (a, b)) ↦ let r = (tests x).0 b in
              let e₁ : y % WIDTH ≡ i = omega arith in
              inr (e₁, ((omega arith, c), omega arith, rw (ap (λ (z : ℕ). get_or s z 0) e₁) r.1))
        ],
        λ z. (given y x).1 (elim z [
          | inl g ↦ inl g
          | inr (c, ((a, b), d, f)) ↦ inr (b, (omega arith, (tests x).1 (b, rw (ap (λ (z : ℕ). get_or s z 0) c) at f)))
        ]),
      ))
    where
      y₀ : ℕ
      y₀ = q * WIDTH + i

      v : ℕ
      v = get_or s i 0

      tests : (x : ℕ) → So (eqb (x / WIDTH) p && bit_of (get_or s i 0) (x % WIDTH)) ↔ ((x / WIDTH ≡ p) × So (bit_of (get_or s i 0) (x % WIDTH)))
      tests x = and-iff (so-eq {m = x / WIDTH} {n = p}) same-iff

      given : (y x : ℕ) → So (bit (or_of t (y₀ * WORDS + p) v) y x) ↔ (Edges t y x ⊎ ((x / WIDTH ≡ p) × ((y ≡ y₀) × So (eqb (x / WIDTH) p && bit_of v (x % WIDTH)))))
      given = grown-iff t y₀ p v (λ x. eqb (x / WIDTH) p && bit_of v (x % WIDTH)) (λ x h e. rw ((so-eq {m = x / WIDTH} {n = p}).1 e) refl) (λ x h. omega (arith, ((tests x).0 h).0, row-full)) (omega (arith, row-full)) hp (omega (arith, row-full))

  pub square-skip : n ≤ q * WIDTH + i → LayingSquare e s n p q (i + 1) t
  square-skip h = adding-same e (LaysSquare s n p q) (λ y _. y % WIDTH) i t now (λ y x a b. omega (arith, b.0.0, b.1))

  pub square-laid : WIDTH ≤ i → Added e (LaysSquare s n p q) t
  square-laid h = added e (LaysSquare s n p q) (λ y _. y % WIDTH) i t now (λ y x b. omega arith)

-- A square is turned round ---------------------------------------------------------------------------------------------------------------------

module _ (rows : List ℕ) (n p q : ℕ) (e t : List ℕ) where
  pub part_turned : (a s : List ℕ) → Square (part rows n p q) a → Square (λ i j. square_bit a j i) s → Added e (LaysSquare s n p q) t → Added e (λ y x. InSquare p q y x × Turns rows n y x) t
  part_turned a s A S d = record {
    long = d.long;
    words = d.words;
    pairs = λ y x. (
      λ h. elim ((d.pairs y x).0 h) [
        | inl g ↦ inl g
        | inr (b, c, f) ↦ let r = (tests x y).0 (sym (same y x b.0 b.1) ∙ f) in inr (b, (c, r.0, r.1))
      ],
      λ z. (d.pairs y x).1 (elim z [ inl g ↦ inl g | inr (b, (c, f, g)) ↦ inr (b, c, same y x b.0 b.1 ∙ (tests x y).1 (f, g)) ]),
    );
  }
    where
      tests : (x y : ℕ) → So (ltb x n && bit rows x y) ↔ ((x < n) × Edges rows x y)
      tests x y = and-iff (so-lt {m = x} {n = n}) same-iff

      same : (y x : ℕ) → y / WIDTH ≡ q → x / WIDTH ≡ p → square_bit s (y % WIDTH) (x % WIDTH) ≡ (ltb x n && bit rows x y)
      same y x b c =
          let f : p * WIDTH + x % WIDTH ≡ x = omega arith in
          let g : q * WIDTH + y % WIDTH ≡ y = omega arith in
          S.cells (y % WIDTH) (x % WIDTH) (omega arith) (omega arith) ∙ A.cells (x % WIDTH) (y % WIDTH) (omega arith) (omega arith) ∙ rw (f, g) refl

  pub part-bare : (n ≤ p * WIDTH) ⊎ (n ≤ q * WIDTH) → Added e (λ y x. InSquare p q y x × Turns rows n y x) e
  part-bare h = record {
    long = refl;
    words = λ w. w;
    pairs = λ y x. (inl, λ z. elim z [ inl g ↦ g | inr (b, (c, d, _)) ↦ absurd (elim h [ inl l ↦ omega (arith, b.1) | inr l ↦ omega (arith, b.0) ]) ]);
  }

-- The whole relation ---------------------------------------------------------------------------------------------------------------------------

abbrev pub Turning : List ℕ → ℕ → ℕ → List ℕ → Type 0
Turning rows n c t = Adding (empty_of CELLS) (Turns rows n) (λ y x. x / WIDTH * WORDS + y / WIDTH) c t

pub turning-none : (rows : List ℕ) (n : ℕ) → Turning rows n 0 (empty_of CELLS)
turning-none rows n = adding-none (empty_of CELLS) (Turns rows n) (λ y x. x / WIDTH * WORDS + y / WIDTH)

module _ (rows : List ℕ) (n c : ℕ) (t : List ℕ) (now : Turning rows n c t) where
  pub turning-more : (u : List ℕ) → Added t (λ y x. InSquare (c / WORDS) (c % WORDS) y x × Turns rows n y x) u → Turning rows n (c + 1) u
  turning-more u d =
      adding-more (empty_of CELLS) (Turns rows n) (λ y x. x / WIDTH * WORDS + y / WIDTH) c t now u d.long d.words
      (λ y x. (
        λ h. elim ((d.pairs y x).0 h) [ inl g ↦ inl g | inr (b, g) ↦ inr (omega (arith, b.0, b.1), g) ],
        λ z. (d.pairs y x).1 (elim z [ inl g ↦ inl g | inr (b, g) ↦ let r = bit-bounds rows x y g.2 in inr ((omega (arith, row-full), omega (arith, row-full)), g) ]),
      ))

  pub turned_round : (before : List ℕ) → length before ≡ CELLS → WORDS * WORDS ≤ c → TurnedRound rows n before t
  turned_round before l h =
      let a = added (empty_of CELLS) (Turns rows n) (λ y x. x / WIDTH * WORDS + y / WIDTH) c t now (λ y x g. omega (arith, row-full, bit-bounds rows x y g.2)) in
      record {
        long = a.long ∙ empty-long CELLS ∙ sym l;
        words = a.words (empty-words CELLS);
        pairs = λ _ x y. (
          λ z. elim ((a.pairs y x).0 z) [ inl g ↦ absurd (false≢true (sym (empty-bit CELLS y x) ∙ g)) | inr g ↦ g ],
          λ g. (a.pairs y x).1 (inr g),
        );
        other = λ d. absurd (d l);
      }

pub unturned : (rows : List ℕ) (n : ℕ) (before : List ℕ) → length before ≢ CELLS → Words before → TurnedRound rows n before before
unturned rows n before d w = record { long = refl; words = w; pairs = λ l. absurd (d l); other = λ _. refl }

pub turned-one : (rows : List ℕ) (n : ℕ) (before a b : List ℕ) → TurnedRound rows n before a → TurnedRound rows n before b → a ≡ b
turned-one rows n before a b p q = elim (eq? (length before) CELLS) [
  | inl l ↦ rows-one a b (p.long ∙ l) (q.long ∙ l) p.words q.words (λ y x. test-one (p.pairs l x y) (q.pairs l x y))
  | inr d ↦ p.other d ∙ sym (q.other d)
]
