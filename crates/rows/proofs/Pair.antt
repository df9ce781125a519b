-- Rows with one pair more.
--
--   mark-bit, put-bit     == the relation has the pair and what it had, as a test
--   mark-iff, put-iff     == the same as a relation
--   mark-long, put-long   == as many words as before
--   mark-words, put-words == words stay words
--   put_in, put-left, put_right, put-past == within the records the pair is marked; elsewhere nothing changes
use mathlib.Core.Path.{◌≡◌, refl, ◌∙◌}
use mathlib.Core.Logic.{◌⊎◌, ◌↔◌}
use mathlib.Core.Bool.{Bool, true, false, So, cond, ◌||◌, ◌&&◌}
use mathlib.Core.List.{List}
use Prim.Native.Nat.{ℕ, ◌%◌, ◌^◌, ◌<◌, ◌≤◌}
use native.Mathlib.Decide.{dec_lt}
use native.Mathlib.Omega.{arith}
use borrow.Author.Tests.{le-ltb}
use lib.Dec.{eqb, ltb}
use lib.ListN.{length, get_or}
use lib.Pow.{pow-lt}
use lib.Seq.{set_out}
use Rattle.laws.specs.Bits.{bit_of}
use Rattle.laws.proofs.Bits.{bit_of-power}
use Rattle.laws.proofs.Tests.{off, test-one, and-iff, or-iff, same-iff, so-eq, so-lt}
use Rattle.trace.specs.Bounds.{RECORDS}
use Rattle.rows.specs.Bounds.{WIDTH, CELLS}
use Rattle.rows.specs.Rows.{place, bit, Edges, Words}
use Rattle.rows.specs.Put.{mark_of, put_of}
use Rattle.rows.proofs.Or.{or_long, or-words, or-bits}
use Rattle.rows.proofs.Rows.{bit_at, bit-left, bit-right, place_in}

module _ (rows : List ℕ) (x y : ℕ) where
  pub mark-long : length (mark_of rows x y) ≡ length rows
  unfolding mark_of
  mark-long = or_long rows (place x y) (2 ^ (y % WIDTH))

  pub mark-words : Words rows → Words (mark_of rows x y)
  unfolding mark_of
  mark-words = or-words rows (place x y) (2 ^ (y % WIDTH)) (pow-lt {i = y % WIDTH} {j = WIDTH} (omega arith))

  -- the words, bit by bit
  mark-word : place x y < length rows → (i j : ℕ) → bit_of (get_or (mark_of rows x y) i 0) j ≡ (bit_of (get_or rows i 0) j || (eqb i (place x y) && eqb j (y % WIDTH)))
  unfolding mark_of
  mark-word l i j = or-bits rows (place x y) (2 ^ (y % WIDTH)) l i j ∙ rw bit_of-power refl

  module _ (hx : x < RECORDS) (hy : y < RECORDS) where
    pub put_in : put_of rows x y ≡ mark_of rows x y
    unfolding put_of
    put_in = rw (so-lt.1 hx, so-lt.1 hy) refl

    -- a pair is x, y
    is-pair : {i j : ℕ} → So (eqb i x && eqb j y) ↔ ((i ≡ x) × (j ≡ y))
    is-pair = and-iff so-eq so-eq

    no-pair : (i j : ℕ) → ((i ≡ x) × (j ≡ y) → ⊥) → (eqb i x && eqb j y) ≡ false
    no-pair i j d = off (λ t. d (is-pair.0 t))

    -- two pairs have one bit only if they are one
    one_bit : (i j : ℕ) → i < RECORDS → j < RECORDS → (eqb (place i j) (place x y) && eqb (j % WIDTH) (y % WIDTH)) ≡ (eqb i x && eqb j y)
    one_bit i j hi hj =
        test-one {A = (i ≡ x) × (j ≡ y)}
        (let q : So (eqb (place i j) (place x y) && eqb (j % WIDTH) (y % WIDTH)) ↔ ((place i j ≡ place x y) × (j % WIDTH ≡ y % WIDTH)) = and-iff so-eq so-eq in
        (λ t. let e = q.0 t in (omega arith, omega arith), λ e. q.1 (omega arith, omega arith)))
        is-pair

    pub mark-bit : place x y < length rows → (i j : ℕ) → bit (mark_of rows x y) i j ≡ (bit rows i j || (eqb i x && eqb j y))
    mark-bit l i j = elim (dec_lt i RECORDS) [
      | yes hi ↦ elim (dec_lt j RECORDS) [
        | yes hj ↦ rw (bit_at (mark_of rows x y) i j hi hj, bit_at rows i j hi hj, mark-word l (place i j) (j % WIDTH), one_bit i j hi hj) refl
        | no hj ↦ rw (bit-right (mark_of rows x y) i j (omega arith), bit-right rows i j (omega arith), no-pair i j (λ e. omega arith)) refl
      ]
      | no hi ↦ rw (bit-left (mark_of rows x y) i j (omega arith), bit-left rows i j (omega arith), no-pair i j (λ e. omega arith)) refl
    ]

    pub mark-iff : place x y < length rows → (i j : ℕ) → So (bit (mark_of rows x y) i j) ↔ (Edges rows i j ⊎ ((i ≡ x) × (j ≡ y)))
    mark-iff l i j = rw (mark-bit l i j) (or-iff same-iff is-pair)

    pub put-bit : CELLS ≤ length rows → (i j : ℕ) → bit (put_of rows x y) i j ≡ (bit rows i j || (eqb i x && eqb j y))
    put-bit l i j = rw put_in (mark-bit (place_in hx hy l) i j)

    pub put-iff : CELLS ≤ length rows → (i j : ℕ) → So (bit (put_of rows x y) i j) ↔ (Edges rows i j ⊎ ((i ≡ x) × (j ≡ y)))
    put-iff l i j = rw put_in (mark-iff (place_in hx hy l) i j)

  pub put-left : RECORDS ≤ x → put_of rows x y ≡ rows
  unfolding put_of
  put-left h = rw (le-ltb x RECORDS h) refl

  pub put_right : RECORDS ≤ y → put_of rows x y ≡ rows
  unfolding put_of
  put_right h = rw (off {b = ltb x RECORDS && ltb y RECORDS} (λ t. let e = (and-iff (so-lt {m = x} {n = RECORDS}) (so-lt {m = y} {n = RECORDS})).0 t in omega arith)) refl

  -- what holds of the marked rows and of the rows holds either way
  put-either : (P : List ℕ → Type 0) → P (mark_of rows x y) → P rows → P (put_of rows x y)
  unfolding put_of
  put-either P marked same = either (ltb x RECORDS && ltb y RECORDS)
    where
      either : (b : Bool) → P (cond b (mark_of rows x y) rows)
      either true = marked
      either false = same

  pub put-past : length rows ≤ place x y → put_of rows x y ≡ rows
  unfolding mark_of
  put-past h = put-either (λ r. r ≡ rows) (set_out rows (place x y) _ h) refl

  pub put-long : length (put_of rows x y) ≡ length rows
  put-long = put-either (λ r. length r ≡ length rows) mark-long refl

  pub put-words : Words rows → Words (put_of rows x y)
  put-words w = put-either Words (mark-words w) w
