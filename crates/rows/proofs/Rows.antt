-- The relation that rows hold.
--
--   row-full   == a row has a bit for each record, and none to spare
--   bit_at     == within the records, a pair's bit is a bit of its word
--   bit-bounds == a pair of the relation is a pair of record numbers
--   bit-left, bit-right, bit_past == no pair with a number past the records, or with a word past the end of the rows
--   place_in   == rows of the full length have a word for each pair
--   self-iff   == what `reflexive` answers: some number is in a pair with itself
use mathlib.Core.Path.{◌≡◌, refl, ap, ◌∙◌}
use mathlib.Core.Logic.{◌↔◌}
use mathlib.Core.Bool.{false, So}
use mathlib.Core.List.{List}
use Prim.Native.Nat.{ℕ, ◌*◌, ◌%◌, ◌<◌, ◌≤◌}
use native.Mathlib.Omega.{arith}
use lib.ListN.{length, get_or, get_or-eq_default}
use Rattle.laws.specs.Bits.{bit_of}
use Rattle.laws.specs.Tests.{any}
use Rattle.laws.proofs.Bits.{bit_of-zero}
use Rattle.laws.proofs.Tests.{off, and-iff, same-iff, so-lt, so-any}
use Rattle.trace.specs.Bounds.{RECORDS}
use Rattle.rows.specs.Bounds.{WIDTH, WORDS, CELLS}
use Rattle.rows.specs.Rows.{place, bit, Edges}

pub row-full : RECORDS ≡ WORDS * WIDTH
row-full = refl

pub place_in : {x y n : ℕ} → x < RECORDS → y < RECORDS → CELLS ≤ n → place x y < n
place_in h l m = omega (arith, row-full)

pub bit_at : (rows : List ℕ) (x y : ℕ) → x < RECORDS → y < RECORDS → bit rows x y ≡ bit_of (get_or rows (place x y) 0) (y % WIDTH)
unfolding bit
bit_at rows x y h l = rw (so-lt.1 h, so-lt.1 l) refl

pub bit-bounds : (rows : List ℕ) (x y : ℕ) → So (bit rows x y) → (x < RECORDS) × (y < RECORDS)
unfolding bit
bit-bounds rows x y t = ((and-iff (and-iff (so-lt {m = x} {n = RECORDS}) (so-lt {m = y} {n = RECORDS})) same-iff).0 t).0

module _ (rows : List ℕ) (x y : ℕ) where
  pub bit-left : RECORDS ≤ x → bit rows x y ≡ false
  bit-left h = off (λ t. let b = bit-bounds rows x y t in omega arith)

  pub bit-right : RECORDS ≤ y → bit rows x y ≡ false
  bit-right h = off (λ t. let b = bit-bounds rows x y t in omega arith)

  pub bit_past : length rows ≤ place x y → bit rows x y ≡ false
  bit_past h =
      off (λ t.
      let b = bit-bounds rows x y t in
      let e = bit_at rows x y b.0 b.1 ∙ ap (λ n. bit_of n (y % WIDTH)) (get_or-eq_default rows 0 h) ∙ bit_of-zero (y % WIDTH) in
      let z : ◌≡◌ {A = ℕ} 0 1 = cc in
      omega arith)

pub self-iff : (rows : List ℕ) → So (any RECORDS (λ x. bit rows x x)) ↔ ((x : ℕ) × Edges rows x x)
self-iff rows =
    let some = so-any RECORDS (λ x. bit rows x x) in
    (λ t. let s = some.0 t in (s.0, s.2), λ s. some.1 (s.0, (bit-bounds rows s.0 s.0 s.1).0, s.1))
