-- Rows taken as a whole.
--
--   cleared, empty-bit, empty-long, empty-words == rows of 0: the relation with no pair
--   copy-same, copy-other, copied_more          == rows that take over what others hold
--   rows-one, rows_same                         == rows of the full length are settled by their relation
use mathlib.Core.Path.{◌≡◌, refl, sym, ap, ◌∙◌}
use mathlib.Core.Logic.{◌≢◌, ◌↔◌}
use mathlib.Core.Bool.{false, cond}
use mathlib.Core.List.{List, ◌++◌, append-nil}
use Prim.Native.Nat.{ℕ, ◌+◌, ◌*◌, ◌/◌, ◌%◌, ◌<◌}
use native.Mathlib.Decide.{dec_lt}
use native.Mathlib.Omega.{arith}
use borrow.Author.Count.{below_more}
use lib.ListN.{length, get_or, set, drop, length-replicate, get_or-replicate, drop_of_length-le, get_or-eq_default}
use lib.Seq.{get_or-set_same, get_or-set_other, ext_get_or}
use Rattle.laws.specs.Bits.{bit_of}
use Rattle.laws.proofs.Bits.{bit_of-zero, bit_of-one}
use Rattle.laws.proofs.Tests.{off, so-eq}
use Rattle.trace.specs.Bounds.{RECORDS}
use Rattle.rows.specs.Bounds.{WIDTH, WORDS, CELLS}
use Rattle.rows.specs.Rows.{place, bit, Words}
use Rattle.rows.specs.Empty.{empty_of}
use Rattle.rows.specs.Copy.{copy_of}
use Rattle.rows.proofs.Rows.{bit_at, bit-left, bit-right}

pub empty-long : (n : ℕ) → length (empty_of n) ≡ n
empty-long n = length-replicate n 0

-- a list of 0 has 0 everywhere, past its end too
zeros : (n i : ℕ) → ◌≡◌ {A = ℕ} (get_or (empty_of n) i 0) 0
zeros n i = elim (dec_lt i n) [
  | yes h ↦ get_or-replicate n i 0 0 h
  | no h ↦ get_or-eq_default (empty_of n) 0 (omega (arith, empty-long n))
]

pub empty-bit : (n x y : ℕ) → bit (empty_of n) x y ≡ false
empty-bit n x y = elim (dec_lt x RECORDS) [
  | yes h ↦ elim (dec_lt y RECORDS) [
    | yes l ↦ bit_at (empty_of n) x y h l ∙ rw zeros (bit_of-zero (y % WIDTH))
    | no l ↦ bit-right (empty_of n) x y (omega arith)
  ]
  | no h ↦ bit-left (empty_of n) x y (omega arith)
]

pub empty-words : (n : ℕ) → Words (empty_of n)
empty-words n i = rw zeros (omega arith)

-- the first n words are 0, and there are no others
pub cleared : (rows before : List ℕ) (n : ℕ) → length before ≡ n → rows ≡ empty_of n ++ drop n before → rows ≡ empty_of (length before)
cleared rows before n l e = e ∙ rw (drop_of_length-le before {i = n} (omega arith), append-nil, l) refl

module _ (from to : List ℕ) where
  pub copy-same : length from ≡ length to → copy_of from to ≡ from
  unfolding copy_of
  copy-same e = rw (so-eq.1 e) refl

  pub copy-other : length from ≢ length to → copy_of from to ≡ to
  unfolding copy_of
  copy-other d = ap (λ b. cond b from to) (off (λ t. d (so-eq.0 t)))

  -- one word more is taken over
  pub copied_more : (i : ℕ) → i < length to → ((k : ℕ) → k < i → get_or to k 0 ≡ get_or from k 0) → (k : ℕ) → k < i + 1 → get_or (set to i (get_or from i 0)) k 0 ≡ get_or from k 0
  copied_more i l h =
      below_more _ i (λ k b. get_or-set_other to i k (get_or from i 0) 0 (λ e. omega arith) ∙ h k b) (get_or-set_same to i (get_or from i 0) 0 l)

module _ (a b : List ℕ) (la : length a ≡ CELLS) (lb : length b ≡ CELLS) (wa : Words a) (wb : Words b) where
  pub rows-one : ((x y : ℕ) → bit a x y ≡ bit b x y) → a ≡ b
  rows-one same =
      ext_get_or 0 a b (la ∙ sym lb)
      (λ i h. bit_of-one WIDTH (get_or a i 0) (get_or b i 0) (wa i) (wb i)
      (λ j l.
      let x = i / WORDS in
      let y = i % WORDS * WIDTH + j in
      let hx : x < RECORDS = omega arith in
      let hy : y < RECORDS = omega arith in
      let p : place x y ≡ i = omega arith in
      let q : y % WIDTH ≡ j = omega arith in
      let at : (r : List ℕ) → bit r x y ≡ bit_of (get_or r i 0) j = λ r. bit_at r x y hx hy ∙ rw (p, q) refl in
      sym (at a) ∙ same x y ∙ at b))

  pub rows_same : (a ≡ b) ↔ ((x y : ℕ) → bit a x y ≡ bit b x y)
  rows_same = (λ e x y. ap (λ r. bit r x y) e, rows-one)
