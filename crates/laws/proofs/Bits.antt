-- The bits of numbers.
--
--   bit_of-or    == an `or` has the bits of both
--   bit_of-zero  == 0 has none
--   bit_of-power == a power of two has one
--   shift_one   == 1 shifted within a word is a power of two
--   bit_of-past  == a number of k bits has none past them
--   bit_of-half  == half a number has its bits, one lower
--   bit_of-one   == two numbers of k bits with the same bits are one number
use mathlib.Core.Path.{◌≡◌, refl, sym, ap, ◌∙◌, subst}
use mathlib.Core.Logic.{inl, inr}
use mathlib.Core.Bool.{Bool, true, false, ◌||◌}
use Prim.Native.Nat.{ℕ, zero, suc, ◌+◌, ◌-◌, ◌*◌, ◌/◌, ◌%◌, ◌^◌, ◌<◌, ◌≤◌}
use native.Mathlib.Nat.{zero-div, div-one, div_self, div-eq_of_lt, mul-mod_left, pow-suc, lt_of_lt_of_le, one-mul, mod-eq_of_lt}
use native.Mathlib.Omega.{arith}
use lib.Arith.{lt-one}
use lib.Bits.{bit_or, or_shr, or_mod}
use lib.Dec.{eqb}
use lib.Pow.{pow_pos, pow-add, pow-lt, pow_mono, shl-shr, shr-shr, shr_lt}
use borrow.Author.Tests.{eqb-true, eqb-false, eq-eqb, ne_eqb}
use Rattle.laws.specs.Bits.{bit_of}
use Rattle.laws.proofs.Tests.{three}

or-low : (x y : ℕ) → x < 2 → y < 2 → eqb (bit_or x y) 1 ≡ (eqb x 1 || eqb y 1)
or-low zero zero hx hy = refl
or-low zero (suc zero) hx hy = refl
or-low zero (suc (suc y)) hx hy = absurd (omega arith)
or-low (suc zero) zero hx hy = refl
or-low (suc zero) (suc zero) hx hy = refl
or-low (suc zero) (suc (suc y)) hx hy = absurd (omega arith)
or-low (suc (suc x)) y hx hy = absurd (omega arith)

pub bit_of-or : (a b j : ℕ) → bit_of (bit_or a b) j ≡ (bit_of a j || bit_of b j)
unfolding bit_of
bit_of-or a b j =
    ap (λ (n : ℕ). eqb (n % 2) 1) (or_shr a b j)
    ∙ ap (λ (n : ℕ). eqb n 1) (or_mod (a / 2 ^ j) (b / 2 ^ j) 1)
    ∙ or-low (a / 2 ^ j % 2) (b / 2 ^ j % 2) (omega arith) (omega arith)

pub bit_of-zero : (j : ℕ) → bit_of 0 j ≡ false
unfolding bit_of
bit_of-zero j = rw zero-div

pub bit_of-power : (k j : ℕ) → bit_of (2 ^ k) j ≡ eqb j k
unfolding bit_of
bit_of-power k j = elim (three j k) [
  | inl h ↦
      let m : ℕ = k - suc j in
      let e : k ≡ suc m + j = omega arith in
      let q : 2 ^ k / 2 ^ j ≡ 2 ^ m * 2 =
      ap (λ (n : ℕ). 2 ^ n / 2 ^ j) e ∙ ap (λ (n : ℕ). n / 2 ^ j) (pow-add 2 (suc m) j) ∙ shl-shr (2 ^ suc m) j ∙ pow-suc 2 m in
      rw (q, mul-mod_left, ne_eqb j k (omega arith))
  | inr (inl e) ↦ rw (e, div_self (pow_pos k), eq-eqb k k refl)
  | inr (inr h) ↦ rw (div-eq_of_lt (pow-lt h), ne_eqb j k (omega arith))
]

pub shift_one : {k w : ℕ} → k < w → 1 * 2 ^ k % 2 ^ w ≡ 2 ^ k
shift_one {k} {w} h = rw (one-mul (2 ^ k)) (mod-eq_of_lt (pow-lt h))

pub bit_of-past : (n k j : ℕ) → n < 2 ^ k → k ≤ j → bit_of n j ≡ false
unfolding bit_of
bit_of-past n k j h l = rw (div-eq_of_lt (lt_of_lt_of_le h (pow_mono l)))

pub bit_of-half : (n j : ℕ) → bit_of (n / 2 ^ 1) j ≡ bit_of n (1 + j)
unfolding bit_of
bit_of-half n j = ap (λ (m : ℕ). eqb (m % 2) 1) (shr-shr n 1 j)

-- two digits that are 1 together are the same
low-one : (x y : ℕ) → x < 2 → y < 2 → eqb x 1 ≡ eqb y 1 → x ≡ y
low-one x y hx hy e = go (eqb y 1) refl
  where
    go : (b : Bool) → eqb y 1 ≡ b → x ≡ y
    go true q = omega (arith, eqb-true x 1 (e ∙ q), eqb-true y 1 q)
    go false q = let m = eqb-false x 1 (e ∙ q) in let n = eqb-false y 1 q in omega arith

pub bit_of-one : (k a b : ℕ) → a < 2 ^ k → b < 2 ^ k → ((j : ℕ) → j < k → bit_of a j ≡ bit_of b j) → a ≡ b
unfolding bit_of
bit_of-one zero a b ha hb same = lt-one ha ∙ sym (lt-one hb)
bit_of-one (suc k) a b ha hb same =
    let low : a % 2 ≡ b % 2 =
    low-one (a % 2) (b % 2) (omega arith) (omega arith) (ap (λ (n : ℕ). eqb (n % 2) 1) (sym (div-one a)) ∙ same 0 (omega arith) ∙ ap (λ (n : ℕ). eqb (n % 2) 1) (div-one b)) in
    let high : a / 2 ≡ b / 2 =
    bit_of-one k (a / 2) (b / 2) (half a ha) (half b hb) (λ j h. bit_of-half a j ∙ same (1 + j) (omega arith) ∙ sym (bit_of-half b j)) in
    omega arith
  where
    half : (n : ℕ) → n < 2 ^ suc k → n / 2 < 2 ^ k
    half n h = shr_lt k 1 (subst (λ (m : ℕ). n < 2 ^ m) (let q : suc k ≡ k + 1 = omega arith in q) h)
