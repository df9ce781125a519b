-- A row that gives up what a row of another relation has.
--
--   bit_of-without       == a word without the bits of another
--   out_of rows w q      == the rows, where word w has no bit of q
--   out-long, out-bits  == as many words as before; the words, bit by bit
--   dropped-word, dropped-past == the steps of a loop: a word gives up its bits, or it lies past the end
--   drop-long, row-dropped == as many words as before; the relation without those pairs
--   drop-words          == what is left of words are words
use mathlib.Core.Path.{◌≡◌, refl, sym, ap, ◌∙◌}
use mathlib.Core.Logic.{◌↔◌, inl, inr}
use mathlib.Core.Bool.{Bool, true, false, So, not, ◌&&◌, cond}
use mathlib.Core.List.{List}
use Prim.Native.Nat.{ℕ, zero, suc, ◌+◌, ◌*◌, ◌/◌, ◌%◌, ◌^◌, ◌<◌, ◌≤◌}
use native.Mathlib.Numerals.{add-one}
use native.Mathlib.Omega.{arith}
use lib.Bits.{bit_or, bit_xor, or_shr, or_mod, xor_shr, xor_mod, or_lt, xor_lt}
use lib.Dec.{eqb, ltb}
use lib.ListN.{length, get_or, set, length-set}
use lib.Seq.{get_or-set_same, get_or-set_other, set_out}
use Rattle.laws.specs.Bits.{bit_of}
use Rattle.laws.proofs.Tests.{off, and-iff, not_iff, same-iff, so-eq, so-lt, eq?}
use Rattle.trace.specs.Bounds.{RECORDS}
use Rattle.rows.specs.Bounds.{WIDTH, WORDS}
use Rattle.rows.specs.Rows.{place, bit, Edges, Words}
use Rattle.rows.specs.Within.{word_of}
use Rattle.rows.specs.DropRow.{without, given_up, drop_row_of}
use Rattle.rows.proofs.Rows.{row-full, bit_at, bit-bounds}
use Rattle.rows.proofs.Or.{set_words}
use Rattle.rows.proofs.Against.{bit_word, word_small}

without-low : (x y : ℕ) → x < 2 → y < 2 → eqb (bit_xor (bit_or x y) y) 1 ≡ (eqb x 1 && not (eqb y 1))
without-low zero zero hx hy = refl
without-low zero (suc zero) hx hy = refl
without-low zero (suc (suc y)) hx hy = absurd (omega arith)
without-low (suc zero) zero hx hy = refl
without-low (suc zero) (suc zero) hx hy = refl
without-low (suc zero) (suc (suc y)) hx hy = absurd (omega arith)
without-low (suc (suc x)) y hx hy = absurd (omega arith)

pub bit_of-without : (p q j : ℕ) → bit_of (without p q) j ≡ (bit_of p j && not (bit_of q j))
unfolding bit_of
bit_of-without p q j =
    let P : ℕ = p / 2 ^ j in
    let Q : ℕ = q / 2 ^ j in
    ap (λ (n : ℕ). eqb (n % 2) 1) (xor_shr (bit_or p q) q j ∙ ap (λ (n : ℕ). bit_xor n Q) (or_shr p q j))
    ∙ ap (λ (n : ℕ). eqb n 1) (xor_mod (bit_or P Q) Q 1 ∙ ap (λ (n : ℕ). bit_xor n (Q % 2 ^ 1)) (or_mod P Q 1))
    ∙ without-low (P % 2) (Q % 2) (omega arith) (omega arith)

abbrev pub out_of : List ℕ → ℕ → ℕ → List ℕ
out_of rows w q = set rows w (without (get_or rows w 0) q)

and-true : (b : Bool) → (b && true) ≡ b
and-true true = refl
and-true false = refl

module _ (rows : List ℕ) (w q : ℕ) where
  pub out-long : length (out_of rows w q) ≡ length rows
  out-long = length-set rows w _

  pub out-bits : w < length rows → (i j : ℕ) → bit_of (get_or (out_of rows w q) i 0) j ≡ (bit_of (get_or rows i 0) j && not (eqb i w && bit_of q j))
  out-bits l i j = elim (eq? i w) [
    | inl e ↦ rw (e, get_or-set_same rows w (without (get_or rows w 0) q) 0 l, bit_of-without, (so-eq {m = w} {n = w}).1 refl) refl
    | inr d ↦ rw (get_or-set_other rows w i (without (get_or rows w 0) q) 0 d, off (λ t. d (so-eq.0 t)), and-true) refl
  ]

module _ (from : List ℕ) (m : ℕ) (e : List ℕ) (x i : ℕ) (t : List ℕ) (now : t ≡ given_up from m e x i) where
  pub dropped-word : (q : ℕ) → q ≡ word_of from m i → out_of t (x * WORDS + i) q ≡ given_up from m e x (i + 1)
  unfolding given_up
  dropped-word q p = rw (add-one, now, p) refl

  pub dropped-past : length t ≤ x * WORDS + i → t ≡ given_up from m e x (i + 1)
  dropped-past h = sym (set_out t (x * WORDS + i) _ h) ∙ dropped-word (word_of from m i) refl

module _ (from : List ℕ) (m : ℕ) (e : List ℕ) (x : ℕ) (hx : x < RECORDS) (room : x * WORDS + WORDS ≤ length e) where
  -- what the first n words of row m take away
  abbrev Lost : ℕ → ℕ → ℕ → Type 0
  Lost n a y = ((a ≡ x) × Edges from m y) × (y / WIDTH < n)

  record Dropping (n : ℕ) (t : List ℕ) : Type 0 where
    pub long : length t ≡ length e
    pub pairs : (a y : ℕ) → So (bit t a y) ↔ (Edges e a y × (Lost n a y → ⊥))

  less : (i : ℕ) → i < WORDS → (t : List ℕ) → Dropping i t → Dropping (suc i) (out_of t (x * WORDS + i) (word_of from m i))
  less i hi t now = record { long = out-long t w q ∙ now.long; pairs = λ a y. (forth a y, back a y) }
    where
      w : ℕ
      w = x * WORDS + i

      q : ℕ
      q = word_of from m i

      u : List ℕ
      u = out_of t w q

      is : (a y : ℕ) → a < RECORDS → y < RECORDS → So (bit u a y) ↔ (Edges t a y × (((place a y ≡ w) × So (bit_of q (y % WIDTH))) → ⊥))
      is a y ha hy =
          let tests = and-iff (same-iff {a = bit_of (get_or t (place a y) 0) (y % WIDTH)}) (not_iff (and-iff (so-eq {m = place a y} {n = w}) (same-iff {a = bit_of q (y % WIDTH)}))) in
          rw (bit_at u a y ha hy, bit_at t a y ha hy, out-bits t w q (omega (arith, now.long)) (place a y) (y % WIDTH)) tests

      given : (y : ℕ) → y < RECORDS → y / WIDTH ≡ i → bit from m y ≡ bit_of q (y % WIDTH)
      given y h e = bit_word from m y h ∙ rw e refl

      forth : (a y : ℕ) → So (bit u a y) → Edges e a y × (Lost (suc i) a y → ⊥)
      forth a y s =
          let b = bit-bounds u a y s in
          let r = (is a y b.0 b.1).0 s in
          let p = (now.pairs a y).0 r.0 in (
            p.0,
            λ g. elim (eq? (y / WIDTH) i) [
              | inl d ↦ r.1 (omega (arith, g.0.0, d), sym (given y b.1 d) ∙ g.0.1)
              | inr d ↦ p.1 (g.0, omega (arith, g.1))
            ],
          )

      back : (a y : ℕ) → Edges e a y × (Lost (suc i) a y → ⊥) → So (bit u a y)
      back a y (h, n) =
          let b = bit-bounds e a y h in
          (is a y b.0 b.1).1 (
            (now.pairs a y).1 (h, λ g. n (g.0, omega (arith, g.1))),
            λ g.
                let d : y / WIDTH ≡ i = omega (arith, g.0, b.1, row-full) in
                n ((omega (arith, g.0, d), given y b.1 d ∙ g.1), omega (arith, d)),
          )

  dropping : (n : ℕ) → n ≤ WORDS → Dropping n (given_up from m e x n)
  unfolding given_up
  dropping zero h = record { long = refl; pairs = λ a y. (λ s. (s, λ g. omega (arith, g.1)), λ p. p.0) }
  dropping (suc i) h = less i (omega arith) (given_up from m e x i) (dropping i (omega arith))

  pub drop-long : length (drop_row_of from m e x) ≡ length e
  unfolding drop_row_of
  drop-long = rw (so-lt.1 hx) (dropping WORDS (omega arith)).long

  pub row-dropped : (a y : ℕ) → So (bit (drop_row_of from m e x) a y) ↔ (Edges e a y × ((a ≡ x) × Edges from m y → ⊥))
  unfolding drop_row_of
  row-dropped a y =
      let p = (dropping WORDS (omega arith)).pairs a y in
      rw ((so-lt {m = x} {n = RECORDS}).1 hx) (
        λ s. let r = p.0 s in (r.0, λ g. r.1 (g, omega (arith, row-full, (bit-bounds from m y g.1).1))),
        λ r. p.1 (r.0, λ g. r.1 g.0),
      )

pub drop-words : (from : List ℕ) → Words from → (m : ℕ) (e : List ℕ) → Words e → (x : ℕ) → Words (drop_row_of from m e x)
unfolding drop_row_of given_up
drop-words from small m e words x = go (ltb x RECORDS)
  where
    given : (n : ℕ) → Words (given_up from m e x n)
    given zero = words
    given (suc i) =
        let t : List ℕ = given_up from m e x i in
        let q : ℕ = word_of from m i in
        let p : ℕ = get_or t (x * WORDS + i) 0 in
        set_words t (given i) (x * WORDS + i) (without p q) (xor_lt WIDTH (bit_or p q) q (or_lt WIDTH p q (given i (x * WORDS + i)) (word_small from small m i)) (word_small from small m i))

    go : (b : Bool) → Words (cond b (given_up from m e x WORDS) e)
    go true = given WORDS
    go false = words
