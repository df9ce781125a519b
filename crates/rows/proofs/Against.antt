-- Rows held against each other.
--
--   word_at, word-past, word-left == a word of a row is a word of the rows; past the end and past the records it is 0
--   word_small                    == and it is a word
--   bit_word                      == a pair's bit is a bit of its row's word
--   or-within                     == `or` adds nothing to a word exactly where the other's bits are its own
--   within-yes, within-no         == what a loop over the words learns
--   row-bit                       == a bit of a word is a number of its row
--   bit_of-and                     == an `and` has the bits that both have
--   meets-yes, meets-no           == likewise, where it looks for a number that both rows have
use mathlib.Core.Path.{◌≡◌, refl, sym, ap, ◌∙◌}
use mathlib.Core.Logic.{◌≢◌, ◌↔◌, inl, inr}
use mathlib.Core.Bool.{Bool, So, ◌&&◌, ◌||◌, false≢true}
use mathlib.Core.List.{List}
use Prim.Native.Nat.{ℕ, zero, suc, ◌+◌, ◌*◌, ◌/◌, ◌%◌, ◌^◌, ◌<◌, ◌≤◌}
use native.Mathlib.Decide.{dec_lt}
use native.Mathlib.Omega.{arith}
use borrow.Author.Tests.{le-ltb}
use lib.Bits.{bit_or, bit_and, or_lt, and_lt, and_shr, and_mod}
use lib.Dec.{eqb}
use lib.ListN.{length, get_or, get_or-eq_default}
use Rattle.laws.specs.Bits.{bit_of}
use Rattle.laws.specs.Tests.{any}
use Rattle.laws.proofs.Bits.{bit_of-or, bit_of-one, bit_of-past, bit_of-zero}
use Rattle.laws.proofs.Tests.{off, and-iff, or-iff, same-iff, so-any, so-lt, test, test-one}
use Rattle.trace.specs.Bounds.{RECORDS}
use Rattle.rows.specs.Bounds.{WIDTH, WORDS}
use Rattle.rows.specs.Rows.{bit, Words}
use Rattle.rows.specs.Within.{word_of, Within, Meets}
use Rattle.rows.proofs.Rows.{row-full, bit_at, bit-left, bit-bounds}

module _ (rows : List ℕ) (x i : ℕ) where
  pub word_at : x < RECORDS → word_of rows x i ≡ get_or rows (x * WORDS + i) 0
  unfolding word_of
  word_at h = rw (so-lt.1 h) refl

  pub word-left : RECORDS ≤ x → word_of rows x i ≡ 0
  unfolding word_of
  word-left h = rw (le-ltb x RECORDS h) refl

  pub word-past : length rows ≤ x * WORDS + i → word_of rows x i ≡ 0
  word-past h = elim (dec_lt x RECORDS) [ yes l ↦ word_at l ∙ get_or-eq_default rows 0 h | no l ↦ word-left (omega arith) ]

pub word_small : (rows : List ℕ) → Words rows → (x i : ℕ) → word_of rows x i < 2 ^ WIDTH
word_small rows w x i = elim (dec_lt x RECORDS) [ yes l ↦ rw (word_at rows x i l) (w (x * WORDS + i)) | no l ↦ rw (word-left rows x i (omega arith)) (omega arith) ]

pub bit_word : (rows : List ℕ) (x z : ℕ) → z < RECORDS → bit rows x z ≡ bit_of (word_of rows x (z / WIDTH)) (z % WIDTH)
bit_word rows x z h = elim (dec_lt x RECORDS) [
  | yes l ↦ bit_at rows x z l h ∙ ap (λ n. bit_of n (z % WIDTH)) (sym (word_at rows x (z / WIDTH) l))
  | no l ↦ bit-left rows x z (omega arith) ∙ sym (ap (λ n. bit_of n (z % WIDTH)) (word-left rows x (z / WIDTH) (omega arith)) ∙ bit_of-zero (z % WIDTH))
]

module _ (p q : ℕ) (hp : p < 2 ^ WIDTH) (hq : q < 2 ^ WIDTH) where
  pub or-within : (bit_or p q ≡ q) ↔ ((j : ℕ) → So (bit_of p j) → So (bit_of q j))
  or-within = (
    λ e j t. sym (ap (λ n. bit_of n j) e) ∙ bit_of-or p q j ∙ ap (λ b. b || bit_of q j) t,
    λ h. bit_of-one WIDTH (bit_or p q) q (or_lt WIDTH p q hp hq) hq
        (λ j _. bit_of-or p q j ∙ test-one (or-iff (same-iff {a = bit_of p j}) (same-iff {a = bit_of q j})) (λ t. inr t, λ s. elim s [ inl t ↦ h j t | inr t ↦ t ])),
  )

and_low : (x y : ℕ) → x < 2 → y < 2 → eqb (bit_and x y) 1 ≡ (eqb x 1 && eqb y 1)
and_low zero zero hx hy = refl
and_low zero (suc zero) hx hy = refl
and_low zero (suc (suc y)) hx hy = absurd (omega arith)
and_low (suc zero) zero hx hy = refl
and_low (suc zero) (suc zero) hx hy = refl
and_low (suc zero) (suc (suc y)) hx hy = absurd (omega arith)
and_low (suc (suc x)) y hx hy = absurd (omega arith)

pub bit_of-and : (p q j : ℕ) → bit_of (bit_and p q) j ≡ (bit_of p j && bit_of q j)
unfolding bit_of
bit_of-and p q j =
    ap (λ (n : ℕ). eqb (n % 2) 1) (and_shr p q j)
    ∙ ap (λ (n : ℕ). eqb n 1) (and_mod (p / 2 ^ j) (q / 2 ^ j) 1)
    ∙ and_low (p / 2 ^ j % 2) (q / 2 ^ j % 2) (omega arith) (omega arith)

pub row-bit : (rows : List ℕ) (r i j : ℕ) → i < WORDS → j < WIDTH → bit rows r (i * WIDTH + j) ≡ bit_of (word_of rows r i) j
row-bit rows r i j h l =
    let z = i * WIDTH + j in
    let e₁ : z / WIDTH ≡ i = omega arith in
    let e₂ : z % WIDTH ≡ j = omega arith in
    bit_word rows r z (omega (arith, row-full)) ∙ rw (e₁, e₂) refl

module _ (a b : List ℕ) (x y : ℕ) where
  pub within-yes : ((i : ℕ) → i < WORDS → bit_or (word_of a x i) (word_of b y i) ≡ word_of b y i) → Within a x b y
  within-yes h z t =
      let l = (bit-bounds a x z t).1 in
      let i = z / WIDTH in
      let j = z % WIDTH in
      bit_word b y z l
      ∙ sym (ap (λ n. bit_of n j) (h i (omega (arith, row-full))))
      ∙ bit_of-or (word_of a x i) (word_of b y i) j
      ∙ ap (λ c. c || bit_of (word_of b y i) j) (sym (bit_word a x z l) ∙ t)

  pub within-no : (i : ℕ) → i < WORDS → Words a → Words b → bit_or (word_of a x i) (word_of b y i) ≢ word_of b y i → Within a x b y → ⊥
  within-no i h wa wb d w = d ((or-within (word_of a x i) (word_of b y i) (word_small a wa x i) (word_small b wb y i)).1 bits)
    where
      bits : (j : ℕ) → So (bit_of (word_of a x i) j) → So (bit_of (word_of b y i) j)
      bits j t = elim (dec_lt j WIDTH) [
        | yes l ↦ sym (row-bit b y i j h l) ∙ w (i * WIDTH + j) (row-bit a x i j h l ∙ t)
        | no l ↦ absurd (false≢true (sym (bit_of-past (word_of a x i) WIDTH j (word_small a wa x i) (omega arith)) ∙ t))
      ]

  pub meets-yes : (i : ℕ) → i < WORDS → Words a → Words b → bit_and (word_of a x i) (word_of b y i) ≢ 0 → Meets a x b y
  meets-yes i h wa wb d = elim (test (any WIDTH common)) [
    | inl s ↦ let f = (so-any WIDTH common).0 s in
        let both = (and-iff (same-iff {a = bit_of p f.0}) (same-iff {a = bit_of q f.0})).0 (sym (bit_of-and p q f.0) ∙ f.2) in
        (i * WIDTH + f.0, row-bit a x i f.0 h f.1 ∙ both.0, row-bit b y i f.0 h f.1 ∙ both.1)
    | inr n ↦ absurd (d (bit_of-one WIDTH (bit_and p q) 0 (and_lt WIDTH p q (word_small a wa x i) (word_small b wb y i)) (omega arith)
        (λ j l. off (λ t. false≢true (sym n ∙ (so-any WIDTH common).1 (j, l, t))) ∙ sym (bit_of-zero j))))
  ]
    where
      p : ℕ
      p = word_of a x i

      q : ℕ
      q = word_of b y i

      common : ℕ → Bool
      common j = bit_of (bit_and (word_of a x i) (word_of b y i)) j

  pub meets-no : ((i : ℕ) → i < WORDS → bit_and (word_of a x i) (word_of b y i) ≡ 0) → Meets a x b y → ⊥
  meets-no h m =
      let z = m.0 in
      let l = (bit-bounds a x z m.1).1 in
      let i = z / WIDTH in
      let j = z % WIDTH in
      let both = (and-iff (same-iff {a = bit_of (word_of a x i) j}) (same-iff {a = bit_of (word_of b y i) j})).1 (sym (bit_word a x z l) ∙ m.1, sym (bit_word b y z l) ∙ m.2) in
      false≢true (sym (bit_of-zero j) ∙ ap (λ n. bit_of n j) (sym (h i (omega (arith, row-full)))) ∙ bit_of-and (word_of a x i) (word_of b y i) j ∙ both)
