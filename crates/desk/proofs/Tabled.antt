-- Where a pair of the held table stands in the bytes of a head.
--
--   byte-bit  == the bits of a byte are those of its word
--   table-bit == record y's bit in the row of record x is bit y % 8 of byte x * RECORDS / 8 + y / 8 of the table
use mathlib.Core.Path.{◌≡◌, sym, ap, ap₂, ◌∙◌}
use mathlib.Core.List.{List}
use Prim.Native.Nat.{ℕ, ◌+◌, ◌*◌, ◌-◌, ◌/◌, ◌%◌, ◌^◌, ◌<◌}
use native.Mathlib.Omega.{arith}
use lib.Dec.{eqb}
use lib.ListN.{get_or}
use lib.Pow.{shr-shr, field, mod-mod-pow}
use Rattle.laws.specs.Bits.{bit_of}
use Rattle.trace.specs.Bounds.{RECORDS}
use Rattle.rows.specs.Bounds.{WIDTH}
use Rattle.rows.specs.Rows.{place, bit}
use Rattle.rows.proofs.Rows.{bit_at}
use Rattle.desk.specs.SessionHead.{byte_of, table_at}
use Rattle.packed.specs.Layout.{BYTE}

-- cut to a byte, a number keeps its bits below the eighth
low_bit : (n b : ℕ) → b < 8 → n % BYTE / 2 ^ b % 2 ≡ n / 2 ^ b % 2
low_bit n b h =
    let e : 8 ≡ 8 - b + b = omega arith in
    let g : 8 - b ≡ 7 - b + 1 = omega arith in
    ap (λ (j : ℕ). n % 2 ^ j / 2 ^ b % 2) e
    ∙ ap (λ (m : ℕ). m % 2) (field n (8 - b) b)
    ∙ ap (λ (j : ℕ). n / 2 ^ b % 2 ^ j % 2) g
    ∙ mod-mod-pow (n / 2 ^ b) (7 - b) 1

pub byte-bit : (w a b : ℕ) → b < 8 → bit_of (byte_of w a) b ≡ bit_of w (8 * a + b)
unfolding byte_of bit_of
byte-bit w a b h = ap (λ (m : ℕ). eqb m 1) (low_bit (w / 2 ^ (8 * a)) b h ∙ ap (λ (m : ℕ). m % 2) (shr-shr w (8 * a) b))

pub table-bit : (held : List ℕ) (x y : ℕ) → x < RECORDS → y < RECORDS → bit_of (table_at held (x * RECORDS / 8 + y / 8)) (y % 8) ≡ bit held x y
unfolding table_at
table-bit held x y hx hy =
    let p : (x * RECORDS / 8 + y / 8) / 8 ≡ place x y = omega arith in
    let q : (x * RECORDS / 8 + y / 8) % 8 ≡ y % WIDTH / 8 = omega arith in
    let r : 8 * (y % WIDTH / 8) + y % 8 ≡ y % WIDTH = omega arith in
    ap₂ (λ (i j : ℕ). bit_of (byte_of (get_or held i 0) j) (y % 8)) p q
    ∙ byte-bit (get_or held (place x y) 0) (y % WIDTH / 8) (y % 8) (omega arith)
    ∙ ap (bit_of (get_or held (place x y) 0)) r
    ∙ sym (bit_at held x y hx hy)
