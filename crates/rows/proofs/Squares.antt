-- Squares turned round, step by step.
--
--   bit_of-shr, bit_of-shl      == the bits of a shifted word
--   bit_of-mix                 == a word that takes some columns from one word and the others from another
--   each-bit                  == what holds for each bit of a place
--   upper_row k p, row_pair k x == the first row of pair p, where the rows of a pair lie 2 to the k apart; the pair of row x
--   high_from k i j            == the lowest k bits of i with the other bits of j
--   Crossing k s p t          == in t the rows of the pairs below p have exchanged their bits, the others are those of s
--   pair_place                == where the two rows of a pair stand, as it is computed
--   crossing-none, crossing-more, crossing-end == before the first pair, a pair more, past the last one
--   Exchanged k s t           == t is s where every cell came from the one whose numbers have the bits from k on exchanged
--   exchanged-none, exchanged-more, exchanged-end == before the first step, a step more, past the last one
--   masks, masked             == a word has the places whose bit k is 0, as it is computed
use mathlib.Core.Path.{◌≡◌, refl, sym, ap, ◌∙◌}
use mathlib.Core.Logic.{◌≢◌, inl, inr}
use mathlib.Core.Bool.{Bool, true, false, So, not, cond, ◌&&◌, ◌||◌, false≢true}
use mathlib.Core.List.{List}
use Prim.Native.Nat.{ℕ, zero, suc, ◌+◌, ◌-◌, ◌*◌, ◌/◌, ◌%◌, ◌^◌, ◌<◌, ◌≤◌}
use native.Mathlib.Omega.{arith}
use lib.Bits.{bit_or, bit_and}
use lib.Dec.{eqb}
use lib.ListN.{length, get_or, set, length-set}
use lib.Pow.{field, mod-mod-pow, shl-shr, shr-shr}
use lib.Seq.{get_or-set_same, get_or-set_other}
use Rattle.laws.specs.Bits.{bit_of}
use Rattle.laws.specs.Tests.{all}
use Rattle.laws.proofs.Bits.{bit_of-or}
use Rattle.laws.proofs.Tests.{test, eq?, so-eq, so-all}
use Rattle.rows.specs.Bounds.{WIDTH}
use Rattle.rows.specs.DropRow.{without}
use Rattle.rows.specs.inner.Squares.{HALVINGS, square_bit, Square, low, Mask, swapped, crossed}
use Rattle.rows.proofs.Against.{bit_of-and}
use Rattle.rows.proofs.Dropping.{bit_of-without}

-- Bits of words ------------------------------------------------------------------------------------------------------------------------------

pub bit_of-shr : (n d j : ℕ) → bit_of (n / 2 ^ d) j ≡ bit_of n (d + j)
unfolding bit_of
bit_of-shr n d j = ap (λ (m : ℕ). eqb (m % 2) 1) (shr-shr n d j)

pub bit_of-shl : (n d w j : ℕ) → j < w → d ≤ j → bit_of (n * 2 ^ d % 2 ^ w) j ≡ bit_of n (j - d)
unfolding bit_of
bit_of-shl n d w j h l =
    let a : ℕ = w - suc j in
    let e : w ≡ (a + 1) + j = omega arith in
    let g : j ≡ d + (j - d) = omega arith in
    let N : ℕ = n * 2 ^ d in
    let cut : N % 2 ^ w / 2 ^ j % 2 ≡ N / 2 ^ j % 2 =
    ap (λ (v : ℕ). N % 2 ^ v / 2 ^ j % 2) e ∙ ap (λ (v : ℕ). v % 2) (field N (a + 1) j) ∙ mod-mod-pow (N / 2 ^ j) a 1 in
    let down : N / 2 ^ j ≡ n / 2 ^ (j - d) =
    ap (λ (v : ℕ). N / 2 ^ v) g ∙ sym (shr-shr N d (j - d)) ∙ ap (λ (v : ℕ). v / 2 ^ (j - d)) (shl-shr n d) in
    ap (λ (v : ℕ). eqb v 1) (cut ∙ ap (λ (v : ℕ). v % 2) down)

chosen-bit : (m a b : Bool) → ((a && m) || (b && not m)) ≡ cond m a b
chosen-bit true true true = refl
chosen-bit true true false = refl
chosen-bit true false true = refl
chosen-bit true false false = refl
chosen-bit false true true = refl
chosen-bit false true false = refl
chosen-bit false false true = refl
chosen-bit false false false = refl

pub bit_of-mix : (m a b j : ℕ) → bit_of (bit_or (bit_and a m) (without b m)) j ≡ cond (bit_of m j) (bit_of a j) (bit_of b j)
bit_of-mix m a b j = bit_of-or (bit_and a m) (without b m) j ∙ rw (bit_of-and a m j, bit_of-without b m j) (chosen-bit (bit_of m j) (bit_of a j) (bit_of b j))

-- Rows in pairs ------------------------------------------------------------------------------------------------------------------------------

pub each-bit : (P : ℕ → Type 0) → P 0 → P 1 → P 2 → P 3 → P 4 → P 5 → (k : ℕ) → k < HALVINGS → P k
each-bit P a b c d e f zero h = a
each-bit P a b c d e f (suc zero) h = b
each-bit P a b c d e f (suc (suc zero)) h = c
each-bit P a b c d e f (suc (suc (suc zero))) h = d
each-bit P a b c d e f (suc (suc (suc (suc zero)))) h = e
each-bit P a b c d e f (suc (suc (suc (suc (suc zero))))) h = f
each-bit P a b c d e f (suc (suc (suc (suc (suc (suc k)))))) h = absurd (omega arith)

unfoldable pub upper_row : ℕ → ℕ → ℕ
upper_row k p = p / 2 ^ k * 2 ^ k + p

unfoldable pub high_from : ℕ → ℕ → ℕ → ℕ
high_from k i j = j / 2 ^ k * 2 ^ k + i % 2 ^ k

unfoldable pub row_pair : ℕ → ℕ → ℕ
row_pair k x = x / 2 ^ k / 2 * 2 ^ k + x % 2 ^ k

-- the two rows of pair p
record TwoRows (k p : ℕ) : Type 0 where
  pub apart : 0 < 2 ^ k
  pub room : upper_row k p + 2 ^ k < WIDTH
  pub first : row_pair k (upper_row k p) ≡ p
  pub second : row_pair k (upper_row k p + 2 ^ k) ≡ p
  pub clear : upper_row k p / 2 ^ k % 2 ≡ 0
  pub set : (upper_row k p + 2 ^ k) / 2 ^ k % 2 ≡ 1

two-rows : (k : ℕ) → k < HALVINGS → (p : ℕ) → p < WIDTH / 2 → TwoRows k p
unfolding upper_row row_pair high_from swapped
two-rows = each-bit (λ k. (p : ℕ) → p < WIDTH / 2 → TwoRows k p)
    (λ p h. record { apart = omega arith; room = omega arith; first = omega arith; second = omega arith; clear = omega arith; set = omega arith })
    (λ p h. record { apart = omega arith; room = omega arith; first = omega arith; second = omega arith; clear = omega arith; set = omega arith })
    (λ p h. record { apart = omega arith; room = omega arith; first = omega arith; second = omega arith; clear = omega arith; set = omega arith })
    (λ p h. record { apart = omega arith; room = omega arith; first = omega arith; second = omega arith; clear = omega arith; set = omega arith })
    (λ p h. record { apart = omega arith; room = omega arith; first = omega arith; second = omega arith; clear = omega arith; set = omega arith })
    (λ p h. record { apart = omega arith; room = omega arith; first = omega arith; second = omega arith; clear = omega arith; set = omega arith })

-- the pair of row x
record RowPaired (k x : ℕ) : Type 0 where
  pub few : row_pair k x < WIDTH / 2
  pub lower : x / 2 ^ k % 2 ≡ 0 → x ≡ upper_row k (row_pair k x)
  pub higher : (x / 2 ^ k % 2 ≡ 0 → ⊥) → x ≡ upper_row k (row_pair k x) + 2 ^ k

row-paired : (k : ℕ) → k < HALVINGS → (x : ℕ) → x < WIDTH → RowPaired k x
unfolding upper_row row_pair high_from swapped
row-paired = each-bit (λ k. (x : ℕ) → x < WIDTH → RowPaired k x)
    (λ x h. record { few = omega arith; lower = λ e. omega arith; higher = λ e. omega arith })
    (λ x h. record { few = omega arith; lower = λ e. omega arith; higher = λ e. omega arith })
    (λ x h. record { few = omega arith; lower = λ e. omega arith; higher = λ e. omega arith })
    (λ x h. record { few = omega arith; lower = λ e. omega arith; higher = λ e. omega arith })
    (λ x h. record { few = omega arith; lower = λ e. omega arith; higher = λ e. omega arith })
    (λ x h. record { few = omega arith; lower = λ e. omega arith; higher = λ e. omega arith })

-- x with a bit of j
record Swaps (k x j : ℕ) : Type 0 where
  pub below : swapped k x j < WIDTH
  pub equals : x / 2 ^ k % 2 ≡ j / 2 ^ k % 2 → swapped k x j ≡ x
  pub up : x / 2 ^ k % 2 ≡ 0 → (j / 2 ^ k % 2 ≡ 0 → ⊥) → swapped k x j ≡ x + 2 ^ k
  pub down : (x / 2 ^ k % 2 ≡ 0 → ⊥) → j / 2 ^ k % 2 ≡ 0 → swapped k x j ≡ x - 2 ^ k
  pub high : (x / 2 ^ k % 2 ≡ 0 → ⊥) → 2 ^ k ≤ x
  pub low-room : x / 2 ^ k % 2 ≡ 0 → x + 2 ^ k < WIDTH
  pub top : swapped k x j / 2 ^ suc k ≡ x / 2 ^ suc k
  pub rest : swapped k x j % 2 ^ suc k ≡ j / 2 ^ k % 2 * 2 ^ k + x % 2 ^ k
  pub whole : x / 2 ^ suc k * 2 ^ suc k + x / 2 ^ k % 2 * 2 ^ k ≡ x / 2 ^ k * 2 ^ k

swaps : (k : ℕ) → k < HALVINGS → (x j : ℕ) → x < WIDTH → j < WIDTH → Swaps k x j
unfolding upper_row row_pair high_from swapped
swaps = each-bit (λ k. (x j : ℕ) → x < WIDTH → j < WIDTH → Swaps k x j)
    (λ x j h l. record { below = omega arith; equals = λ e. omega arith; up = λ e f. omega arith; down = λ e f. omega arith; high = λ e. omega arith; low-room = λ e. omega arith; top = omega arith; rest = omega arith; whole = omega arith })
    (λ x j h l. record { below = omega arith; equals = λ e. omega arith; up = λ e f. omega arith; down = λ e f. omega arith; high = λ e. omega arith; low-room = λ e. omega arith; top = omega arith; rest = omega arith; whole = omega arith })
    (λ x j h l. record { below = omega arith; equals = λ e. omega arith; up = λ e f. omega arith; down = λ e f. omega arith; high = λ e. omega arith; low-room = λ e. omega arith; top = omega arith; rest = omega arith; whole = omega arith })
    (λ x j h l. record { below = omega arith; equals = λ e. omega arith; up = λ e f. omega arith; down = λ e f. omega arith; high = λ e. omega arith; low-room = λ e. omega arith; top = omega arith; rest = omega arith; whole = omega arith })
    (λ x j h l. record { below = omega arith; equals = λ e. omega arith; up = λ e f. omega arith; down = λ e f. omega arith; high = λ e. omega arith; low-room = λ e. omega arith; top = omega arith; rest = omega arith; whole = omega arith })
    (λ x j h l. record { below = omega arith; equals = λ e. omega arith; up = λ e f. omega arith; down = λ e f. omega arith; high = λ e. omega arith; low-room = λ e. omega arith; top = omega arith; rest = omega arith; whole = omega arith })

-- what has the bits above k exchanged, and then bit k, has those from k on exchanged
swaps-from : (k x j : ℕ) → Swaps k x j → Swaps k j x → high_from (suc k) (swapped k x j) (swapped k j x) ≡ high_from k x j
unfolding high_from
swaps-from k x j p q = rw (q.top, p.rest) (joined (j / 2 ^ suc k * 2 ^ suc k) (j / 2 ^ k % 2 * 2 ^ k) (x % 2 ^ k) (j / 2 ^ k * 2 ^ k) q.whole)
  where
    joined : (a b c d : ℕ) → a + b ≡ d → a + (b + c) ≡ d + c
    joined a b c d e = omega arith

-- One step: the pairs of rows exchange their bits ---------------------------------------------------------------------------------------------

pub record Crossing (k : ℕ) (s : List ℕ) (p : ℕ) (t : List ℕ) : Type 0 where
  pub long : length t ≡ WIDTH
  pub done : (x j : ℕ) → x < WIDTH → j < WIDTH → row_pair k x < p → square_bit t x j ≡ crossed k s x j
  pub rest : (x j : ℕ) → x < WIDTH → j < WIDTH → p ≤ row_pair k x → square_bit t x j ≡ square_bit s x j

pub crossing-none : (k : ℕ) (s : List ℕ) → length s ≡ WIDTH → Crossing k s 0 s
crossing-none k s l = record { long = l; done = λ x j _ _ h. absurd (omega arith); rest = λ x j _ _ _. refl }

pub crossing-end : (k : ℕ) (s : List ℕ) (p : ℕ) (t : List ℕ) → k < HALVINGS → WIDTH / 2 ≤ p → Crossing k s p t → Square (crossed k s) t
crossing-end k s p t f h now = record { long = now.long; cells = λ x j a b. now.done x j a b (omega (arith, (row-paired k f x a).few)) }

module _ (k d m : ℕ) (M : Mask k d m) (s t : List ℕ) (p : ℕ) (h : p < WIDTH / 2) (now : Crossing k s p t) (i v w : ℕ) (at : i ≡ upper_row k p)
    (is : (j : ℕ) → bit_of v j ≡ cond (bit_of m j) (bit_of (get_or t i 0) j) (bit_of (get_or t (i + d) 0 * 2 ^ d % 2 ^ WIDTH) j))
    (too : (j : ℕ) → bit_of w j ≡ cond (bit_of m j) (bit_of (get_or t i 0 / 2 ^ d) j) (bit_of (get_or t (i + d) 0) j)) where
  abbrev u : List ℕ
  u = set (set t i v) (i + d) w

  rows : TwoRows k p
  rows = two-rows k M.few p h

  room : i + d < WIDTH
  room = omega (arith, at, M.power, rows.room)

  here : i < WIDTH
  here = omega (arith, room)

  apart : 0 < d
  apart = omega (arith, M.power, rows.apart)

  first : row_pair k i ≡ p
  first = rw at rows.first

  second : row_pair k (i + d) ≡ p
  second = rw (at, M.power) rows.second

  clear : i / 2 ^ k % 2 ≡ 0
  clear = rw at rows.clear

  raised : (i + d) / 2 ^ k % 2 ≡ 0 → ⊥
  raised e = let o : (i + d) / 2 ^ k % 2 ≡ 1 = rw (at, M.power) rows.set in omega (arith, sym e ∙ o)

  came : (x j x₁ j₁ : ℕ) → swapped k x j ≡ x₁ → swapped k j x ≡ j₁ → crossed k s x j ≡ square_bit s x₁ j₁
  came x j x₁ j₁ e f = rw (e, f) refl

  one : (a b : ℕ) → (a % 2 ≡ 0 → ⊥) → (b % 2 ≡ 0 → ⊥) → a % 2 ≡ b % 2
  one a b f g = omega arith

  first-row : (j : ℕ) → j < WIDTH → square_bit u i j ≡ crossed k s i j
  first-row j l =
      ap (λ (n : ℕ). bit_of n j) (get_or-set_other (set t i v) (i + d) i w 0 (λ e. omega (arith, apart)) ∙ get_or-set_same t i v 0 (omega (arith, now.long, room)))
      ∙ is j
      ∙ elim (test (low k j)) [
        | inl y ↦ let e : j / 2 ^ k % 2 ≡ 0 = so-eq.0 y in
            ap (λ b. cond b (bit_of (get_or t i 0) j) (bit_of (get_or t (i + d) 0 * 2 ^ d % 2 ^ WIDTH) j)) (M.places j l ∙ y)
            ∙ now.rest i j here l (omega (arith, first))
            ∙ sym (came i j i j ((swaps k M.few i j here l).equals (clear ∙ sym e)) ((swaps k M.few j i l here).equals (e ∙ sym clear)))
        | inr y ↦ let g : j / 2 ^ k % 2 ≡ 0 → ⊥ = λ e. false≢true (sym y ∙ so-eq.1 e) in
            let b = swaps k M.few j i l here in
            ap (λ b. cond b (bit_of (get_or t i 0) j) (bit_of (get_or t (i + d) 0 * 2 ^ d % 2 ^ WIDTH) j)) (M.places j l ∙ y)
            ∙ bit_of-shl (get_or t (i + d) 0) d WIDTH j l (omega (arith, M.power, b.high g))
            ∙ now.rest (i + d) (j - d) room (omega arith) (omega (arith, second))
            ∙ sym (came i j (i + d) (j - d) ((swaps k M.few i j here l).up clear g ∙ ap (λ (n : ℕ). i + n) (sym M.power)) (b.down g clear ∙ ap (λ (n : ℕ). j - n) (sym M.power)))
      ]

  second-row : (j : ℕ) → j < WIDTH → square_bit u (i + d) j ≡ crossed k s (i + d) j
  second-row j l =
      ap (λ (n : ℕ). bit_of n j) (get_or-set_same (set t i v) (i + d) w 0 (omega (arith, length-set t i v, now.long, room)))
      ∙ too j
      ∙ elim (test (low k j)) [
        | inl y ↦ let e : j / 2 ^ k % 2 ≡ 0 = so-eq.0 y in
            let b = swaps k M.few j (i + d) l room in
            let f : d + j ≡ j + d = omega arith in
            ap (λ b. cond b (bit_of (get_or t i 0 / 2 ^ d) j) (bit_of (get_or t (i + d) 0) j)) (M.places j l ∙ y)
            ∙ bit_of-shr (get_or t i 0) d j
            ∙ ap (bit_of (get_or t i 0)) f
            ∙ now.rest i (j + d) here (omega (arith, M.power, b.low-room e)) (omega (arith, first))
            ∙ sym (came (i + d) j i (j + d) ((swaps k M.few (i + d) j room l).down raised e ∙ (let q : i + d - 2 ^ k ≡ i = omega (arith, M.power) in q)) (b.up e raised ∙ ap (λ (n : ℕ). j + n) (sym M.power)))
        | inr y ↦ let g : j / 2 ^ k % 2 ≡ 0 → ⊥ = λ e. false≢true (sym y ∙ so-eq.1 e) in
            let o : (i + d) / 2 ^ k % 2 ≡ j / 2 ^ k % 2 = one ((i + d) / 2 ^ k) (j / 2 ^ k) raised g in
            ap (λ b. cond b (bit_of (get_or t i 0 / 2 ^ d) j) (bit_of (get_or t (i + d) 0) j)) (M.places j l ∙ y)
            ∙ now.rest (i + d) j room l (omega (arith, second))
            ∙ sym (came (i + d) j (i + d) j ((swaps k M.few (i + d) j room l).equals o) ((swaps k M.few j (i + d) l room).equals (sym o)))
      ]

  kept : (x : ℕ) → x ≢ i → x ≢ i + d → get_or u x 0 ≡ get_or t x 0
  kept x a b = get_or-set_other (set t i v) (i + d) x w 0 b ∙ get_or-set_other t i x v 0 a

  pub crossing-more : Crossing k s (p + 1) (set (set t i v) (i + d) w)
  crossing-more = record {
    long = length-set (set t i v) (i + d) w ∙ length-set t i v ∙ now.long;
    done = λ x j a b c. elim (eq? (row_pair k x) p) [
      | inl e ↦ elim (eq? (x / 2 ^ k % 2) 0) [
        | inl z ↦ let q : x ≡ i = (row-paired k M.few x a).lower z ∙ ap (upper_row k) e ∙ sym at in rw q (first-row j b)
        | inr z ↦ let q : x ≡ i + d = (row-paired k M.few x a).higher z ∙ ap (λ (n : ℕ). upper_row k n + 2 ^ k) e ∙ rw (at, M.power) refl in rw q (second-row j b)
      ]
      | inr e ↦ ap (λ (n : ℕ). bit_of n j) (kept x (λ f. e (rw f first)) (λ f. e (rw f second))) ∙ now.done x j a b (omega arith)
    ];
    rest = λ x j a b c. ap (λ (n : ℕ). bit_of n j) (kept x (λ f. let g : row_pair k x ≡ p = rw f first in omega arith) (λ f. let g : row_pair k x ≡ p = rw f second in omega arith)) ∙ now.rest x j a b (omega arith);
  }

pub pair_place : (k d m : ℕ) → Mask k d m → (p : ℕ) → p < WIDTH / 2 → (p / 2 ^ k * d + p ≡ upper_row k p) × (p / 2 ^ k * d + p + d < WIDTH)
unfolding upper_row
pair_place k d m M p h = let e = M.power in rw e (refl, (two-rows k M.few p h).room)

-- All steps ------------------------------------------------------------------------------------------------------------------------------------

pub record Exchanged (k : ℕ) (s t : List ℕ) : Type 0 where
  pub long : length t ≡ WIDTH
  pub cells : (i j : ℕ) → i < WIDTH → j < WIDTH → square_bit t i j ≡ square_bit s (high_from k i j) (high_from k j i)

pub exchanged-none : (s : List ℕ) → length s ≡ WIDTH → Exchanged HALVINGS s s
unfolding high_from
exchanged-none s l = record { long = l; cells = λ i j a b. sym (rw (whole i j a b, whole j i b a) refl) }
  where
    whole : (i j : ℕ) → i < WIDTH → j < WIDTH → high_from HALVINGS i j ≡ i
    whole i j a b = omega arith

pub exchanged-more : (k : ℕ) (s t u : List ℕ) → k < HALVINGS → Exchanged (suc k) s t → Square (crossed k t) u → Exchanged k s u
exchanged-more k s t u f now c = record {
  long = c.long;
  cells = λ i j a b.
      let p = swaps k f i j a b in
      let q = swaps k f j i b a in
      c.cells i j a b ∙ now.cells (swapped k i j) (swapped k j i) p.below q.below ∙ rw (swaps-from k i j p q, swaps-from k j i q p) refl;
}

pub exchanged-end : (s t : List ℕ) → Exchanged 0 s t → Square (λ i j. square_bit s j i) t
unfolding high_from
exchanged-end s t now = record { long = now.long; cells = λ i j a b. now.cells i j a b ∙ rw (none i j, none j i) refl }
  where
    none : (i j : ℕ) → high_from 0 i j ≡ j
    none i j = omega arith

-- The columns ------------------------------------------------------------------------------------------------------------------------------------

abbrev pub same_test : Bool → Bool → Bool
same_test true b = b
same_test false b = not b

same_test-one : (a b : Bool) → So (same_test a b) → a ≡ b
same_test-one true true t = refl
same_test-one true false t = sym t
same_test-one false true t = t
same_test-one false false t = refl

abbrev pub masks : ℕ → ℕ → Bool
masks k m = all WIDTH (λ j. same_test (bit_of m j) (low k j))

pub masked : (k d m : ℕ) → k < HALVINGS → d ≡ 2 ^ k → So (masks k m) → Mask k d m
masked k d m f e t = record { few = f; power = e; places = λ j l. same_test-one (bit_of m j) (low k j) ((so-all WIDTH (λ j. same_test (bit_of m j) (low k j))).0 t j l) }
