-- The next number of a row, found by the lowest bit of a word.
--
--   low_clear, low-set, low-some == below the zeros that a word ends with no bit is set; the one behind them is; a word that is not 0 has one
--   next_here, next_past, next-end == in this word; in none up to the next word; in none at all
--   next-later, next-in, next-first == the next number is not before the start; below RECORDS it is in the row, and no number of the row comes before it
--   next_one                       == no second number is the next
use mathlib.Core.Path.{◌≡◌, refl, sym, ap, ◌∙◌}
use mathlib.Core.Logic.{◌≢◌, inl, inr}
use mathlib.Core.Bool.{false, So, false≢true}
use mathlib.Core.List.{List}
use Prim.Native.Nat.{ℕ, zero, suc, ◌+◌, ◌-◌, ◌*◌, ◌/◌, ◌%◌, ◌^◌, ◌<◌, ◌≤◌}
use native.Mathlib.Decide.{dec_lt}
use native.Mathlib.Omega.{arith}
use lib.Count.{count_trailing_zeros, under, trailing_le}
use lib.Dec.{eqb}
use lib.Pow.{shr-shr, shr_le}
use Rattle.laws.specs.Bits.{bit_of}
use Rattle.laws.proofs.Bits.{bit_of-half, bit_of-one, bit_of-past, bit_of-zero}
use Rattle.laws.proofs.Tests.{three}
use Rattle.trace.specs.Bounds.{RECORDS}
use Rattle.rows.specs.Bounds.{WIDTH}
use Rattle.rows.specs.Rows.{bit, Words}
use Rattle.rows.specs.Within.{word_of}
use Rattle.rows.specs.Next.{NextInRow}
use Rattle.rows.proofs.Rows.{row-full, bit-bounds}
use Rattle.rows.proofs.Against.{bit_word, word_small}

lowest : (n d : ℕ) → n % 2 ≡ d → bit_of n 0 ≡ eqb d 1
unfolding bit_of
lowest n d e = let q : n / 2 ^ 0 % 2 ≡ d = omega arith in rw q refl

pub low_clear : (k n j : ℕ) → j < count_trailing_zeros k n → bit_of n j ≡ false
unfolding count_trailing_zeros
low_clear zero n j h = absurd (omega arith)
low_clear (suc k) n j h = go (n % 2) refl j h (low_clear k (n / 2))
  where
    go : (d : ℕ) → n % 2 ≡ d → (j : ℕ) → j < under d (count_trailing_zeros k (n / 2)) → ((j : ℕ) → j < count_trailing_zeros k (n / 2) → bit_of (n / 2) j ≡ false) → bit_of n j ≡ false
    go zero e zero h rest = lowest n 0 e
    go zero e (suc j) h rest = let q : 1 + j ≡ suc j = omega arith in ap (bit_of n) (sym q) ∙ sym (bit_of-half n j) ∙ rest j (omega arith)
    go (suc d) e j h rest = absurd (omega arith)

pub low-set : (k n : ℕ) → count_trailing_zeros k n < k → So (bit_of n (count_trailing_zeros k n))
unfolding count_trailing_zeros
low-set zero n h = absurd (omega arith)
low-set (suc k) n h = go (n % 2) refl h (low-set k (n / 2))
  where
    go : (d : ℕ) → n % 2 ≡ d → under d (count_trailing_zeros k (n / 2)) < suc k → (count_trailing_zeros k (n / 2) < k → So (bit_of (n / 2) (count_trailing_zeros k (n / 2)))) → So (bit_of n (under d (count_trailing_zeros k (n / 2))))
    go zero e h rest = let t : ℕ = count_trailing_zeros k (n / 2) in let q : 1 + t ≡ suc t = omega arith in ap (bit_of n) (sym q) ∙ sym (bit_of-half n t) ∙ rest (omega arith)
    go (suc zero) e h rest = lowest n 1 e
    go (suc (suc d)) e h rest = absurd (omega arith)

pub low-some : (k n : ℕ) → n < 2 ^ k → n ≢ 0 → count_trailing_zeros k n < k
low-some k n small d = elim (dec_lt (count_trailing_zeros k n) k) [
  | yes l ↦ l
  | no l ↦ absurd (d (bit_of-one k n 0 small (omega arith) (λ j h. low_clear k n j (omega (arith, trailing_le k n)) ∙ sym (bit_of-zero j))))
]

-- before z there is none, and w is what is left of z's word
module _ (rows : List ℕ) (words : Words rows) (x from z : ℕ) (begun : from ≤ z) (none : (y : ℕ) → from ≤ y → y < z → So (bit rows x y) → ⊥) (h : z < RECORDS) (w : ℕ) (is : w ≡ word_of rows x (z / WIDTH) / 2 ^ (z % WIDTH)) where
  shifted : (j : ℕ) → bit_of w j ≡ bit_of (word_of rows x (z / WIDTH)) (z % WIDTH + j)
  unfolding bit_of
  shifted j = rw is (ap (λ (n : ℕ). eqb (n % 2) 1) (shr-shr (word_of rows x (z / WIDTH)) (z % WIDTH) j))

  in-word : (j : ℕ) → z % WIDTH + j < WIDTH → bit rows x (z + j) ≡ bit_of w j
  in-word j l =
      let q₁ : (z + j) / WIDTH ≡ z / WIDTH = omega arith in
      let q₂ : (z + j) % WIDTH ≡ z % WIDTH + j = omega arith in
      bit_word rows x (z + j) (omega (arith, row-full)) ∙ rw (q₁, q₂) (sym (shifted j))

  small : w < 2 ^ WIDTH
  small = omega (arith, is, word_small rows words x (z / WIDTH), shr_le (word_of rows x (z / WIDTH)) (z % WIDTH))

  pub next_here : w ≢ 0 → NextInRow rows x from (z + count_trailing_zeros WIDTH w)
  next_here d =
      let t : ℕ = count_trailing_zeros WIDTH w in
      let set = low-set WIDTH w (low-some WIDTH w small d) in
      let l : z % WIDTH + t < WIDTH = elim (dec_lt (z % WIDTH + t) WIDTH) [
        | yes l ↦ l
        | no l ↦ absurd (false≢true (sym (bit_of-past (word_of rows x (z / WIDTH)) WIDTH (z % WIDTH + t) (word_small rows words x (z / WIDTH)) (omega arith)) ∙ sym (shifted t) ∙ set))
      ] in
      record {
        skips = λ y p q b. elim (dec_lt y z) [
          | yes m ↦ none y p m b
          | no m ↦ let e : y ≡ z + (y - z) = omega arith in false≢true (sym (ap (bit rows x) e ∙ in-word (y - z) (omega arith) ∙ low_clear WIDTH w (y - z) (omega arith)) ∙ b)
        ];
        there = inl (omega arith, in-word t l ∙ set);
      }

  pub next_past : w ≡ 0 → (y : ℕ) → from ≤ y → y < (z / WIDTH + 1) * WIDTH → So (bit rows x y) → ⊥
  next_past q y p l b = elim (dec_lt y z) [
    | yes m ↦ none y p m b
    | no m ↦ let e : y ≡ z + (y - z) = omega arith in false≢true (sym (ap (bit rows x) e ∙ in-word (y - z) (omega arith) ∙ ap (λ (n : ℕ). bit_of n (y - z)) q ∙ bit_of-zero (y - z)) ∙ b)
  ]

pub next-end : (rows : List ℕ) (x from z : ℕ) → ((y : ℕ) → from ≤ y → y < z → So (bit rows x y) → ⊥) → RECORDS ≤ z → NextInRow rows x from RECORDS
next-end rows x from z none h = record { skips = λ y p l. none y p (omega arith); there = inr refl }

module _ (rows : List ℕ) (x from r : ℕ) (n : NextInRow rows x from r) where
  pub next-later : from ≤ RECORDS → from ≤ r
  next-later h = elim n.there [ inl p ↦ p.0 | inr e ↦ omega arith ]

  pub next-in : r < RECORDS → So (bit rows x r)
  next-in h = elim n.there [ inl p ↦ p.1 | inr e ↦ absurd (omega arith) ]

  pub next-first : (s : ℕ) → from ≤ s → So (bit rows x s) → r ≤ s
  next-first s h t = elim (dec_lt s r) [ yes l ↦ absurd (n.skips s h l t) | no l ↦ omega arith ]

-- the lower of two would be skipped by the other
lower : (rows : List ℕ) (x from a b : ℕ) → NextInRow rows x from a → NextInRow rows x from b → a < b → ⊥
lower rows x from a b p q l = elim p.there [
  | inl u ↦ q.skips a u.0 l u.1
  | inr e ↦ elim q.there [ inl u ↦ omega (arith, (bit-bounds rows x b u.1).1) | inr e₂ ↦ omega arith ]
]

pub next_one : (rows : List ℕ) (x from a b : ℕ) → NextInRow rows x from a → NextInRow rows x from b → a ≡ b
next_one rows x from a b p q = elim (three a b) [
  | inl l ↦ absurd (lower rows x from a b p q l)
  | inr r ↦ elim r [ inl e ↦ e | inr l ↦ absurd (lower rows x from b a q p l) ]
]
